-- What the events of rows weigh: those of a row no more than a finding with a data packet of the row.
use Rattle.std.proofs.Common.{◌≡◌, ℕ, ◌+◌, ◌≤◌, Bool, true, false, eqb, Option, Some, None, List, [], ◌∷◌, length, map, refl, ◌∙◌, ap, arith}
use Rattle.std.specs.Prelude.{Result, Ok, Err, option_to_list}
use Rattle.line_model.specs.declared.diagnostic.TheConstants.{INCONSISTENT_Q_BIT_SETTING}
use Rattle.line_model.specs.declared.interface.Interface.{Interface}
use Rattle.line_model.specs.declared.packet.Class.{Class}
use Rattle.line_model.specs.declared.packet.Class.TheVariants.{Data}
use Rattle.line_model.specs.declared.packet.DataHeader.{DataHeader}
use Rattle.line_model.specs.declared.state.Side.{Side}
use Rattle.line_model.specs.declared.state.Side.TheVariants.{T, N}
use Rattle.line_model.specs.declared.state.StateName.{StateName}
use Rattle.line_model.specs.declared.state.StateName.TheVariants.{D1, D2, D3}
use Rattle.line_model.specs.channels.Verdicts.{Verdict, CallChange}
use Rattle.line_model.specs.channels.Verdicts.Verdict.{Fails, Moves, Transfers, EndsOwed, Nothing}
use Rattle.line_model.specs.channels.Verdicts.CallChange.{Opens, GoesUp, Ends, Keeps}
use Rattle.line_model.specs.declared.event.How.{How}
use Rattle.line_model.specs.declared.event.What.{What}
use Rattle.line_model.specs.declared.event.What.TheVariants.{Data as DataEvent}
use Rattle.line_model.specs.declared.finding.Xcode.{Xcode}
use Rattle.line_model.specs.declared.finding.Xcode.TheVariants.{X3}
use Rattle.line_model.specs.basics.Records.{Item}
use Rattle.line_model.specs.basics.Octets.{bits}
use Rattle.line_model.specs.channels.Pad.{Pair, is_indication, is_set, indicated_by, indicated, asked, events_of_set, events_of_settings, settings_after, message_fault}
use Rattle.line_model.specs.channels.Channels.{Channel, AcceptedData, Opening, PadMessage, is_permanent, other}
use Rattle.line_model.specs.channels.FlowControl.{Counts, count_data}
use Rattle.line_model.specs.channels.Sequences.{begun, is_alike}
use Rattle.line_model.specs.observer.MachineEvents.{stamp}
use Rattle.line_model.specs.observer.Observer.{event_of}
use Rattle.line_model.specs.packets.Formats.{packet_fault, size_in_force, window_in_force}
use Rattle.line_model.specs.packets.Classes.{packet_class}
use Rattle.line_model.specs.packets.Says.{header_in}
use Rattle.line_model.specs.channels.ChannelStep.{accepted_of, completed_message, call_change, judged, verdict, ending_open, after_error, failing, changing, entering, data_reports, option_found, data_alike, data_counted, data_step, counting, transferring, verdict_step, channel_step, counts_of}
use Rattle.line_model.proofs.EventWeights.{total, total-append, weight, weighing}

pub ending_none : (a : ℕ) (f : ℕ → ℕ) (h : How) (o : Option Opening) (c : Channel) → total (weighing a f) (ending_open h o c).reported ≡ 0
ending_none a f h None c = refl
ending_none a f h (Some o) c = refl

error_none : (a : ℕ) (f : ℕ → ℕ) (s : StateName) (c : Channel) → total (weighing a f) (after_error s c).reported ≡ 0
error_none a f D1 c = refl
error_none a f D2 c = refl
error_none a f D3 c = refl
error_none a f s c = ending_none a f _ c.opening _

pub failing_few : (a : ℕ) (f : ℕ → ℕ) (x : Side) (s : StateName) (n : ℕ) (c : Channel) → total (weighing a f) (failing x s n c).reported ≤ a
failing_few a f T s n c = let none = error_none a f s c in omega arith
failing_few a f N s n c = omega arith

changing_none : (a : ℕ) (f : ℕ → ℕ) (xs : List ℕ) (g : CallChange) (c : Channel) → total (weighing a f) (changing xs g c).reported ≡ 0
changing_none a f xs (Opens out) c = total-append (weighing a f) (ending_open _ c.opening c).reported _ ∙ ap (λ n. n + 0) (ending_none a f _ c.opening c)
changing_none a f xs GoesUp c = refl
changing_none a f xs (Ends h) c = ending_none a f h c.opening c
changing_none a f xs Keeps c = refl

indicated_none : (a : ℕ) (f : ℕ → ℕ) (b : Bool) (pad : Side) (p : Pair) → weighing a f (indicated_by b pad p) ≡ 0
indicated_none a f true pad p = refl
indicated_none a f false pad p = refl

map_none : (a : ℕ) (f : ℕ → ℕ) (g : Pair → What) → ((p : Pair) → weighing a f (g p) ≡ 0) → (ps : List Pair) → total (weighing a f) (map g ps) ≡ 0
map_none a f g h [] = refl
map_none a f g h (p ∷ ps) = let more = map_none a f g h ps in let none = h p in omega arith

set_none : (a : ℕ) (f : ℕ → ℕ) (b : Bool) (x : Side) (xs : List ℕ) → total (weighing a f) (events_of_set b x xs) ≡ 0
set_none a f true x xs = refl
set_none a f false x xs = map_none a f (asked (other x)) (λ p. refl) _

pub settings_none : (a : ℕ) (f : ℕ → ℕ) (b d : Bool) (x : Side) (xs : List ℕ) → total (weighing a f) (events_of_settings b d x xs) ≡ 0
settings_none a f true d x xs = map_none a f (indicated x) (λ p. indicated_none a f (eqb (bits 8 8 p.reference) 1) x p) _
settings_none a f false true x xs = set_none a f (eqb (length xs) 1) x xs
settings_none a f false false x xs = refl

after_none : (a : ℕ) (f : ℕ → ℕ) (e : Option Xcode) (x : Side) (xs : List ℕ) → total (weighing a f) (settings_after e x xs) ≡ 0
after_none a f None x xs = settings_none a f (is_indication xs) (is_set xs) x xs
after_none a f (Some X3) x xs = settings_none a f (is_indication xs) (is_set xs) x xs
after_none a f (Some e) x xs = refl

found_few : (a : ℕ) (f : ℕ → ℕ) (x : Side) (e : Option Xcode) → total (weighing a f) (option_to_list (option_found x e)) ≤ a
found_few a f x None = omega arith
found_few a f x (Some e) = omega arith

data_reports_few : (a : ℕ) (f : ℕ → ℕ) (x : Side) (p : AcceptedData) (pad_messages : List PadMessage) (m : Option (List ℕ)) → total (weighing a f) (data_reports x p pad_messages m) ≤ a + f p.length
data_reports_few a f x p pad_messages None = omega arith
data_reports_few a f x p pad_messages (Some m) =
    let e = message_fault x pad_messages m in
    let later : List What = settings_after e x m in
    let parts = total-append (weighing a f) (option_to_list (option_found x e)) (DataEvent x p.length ∷ later) in
    let front = found_few a f x e in
    let behind = after_none a f e x m in
    omega arith

alike_few : (a : ℕ) (f : ℕ → ℕ) (i : Interface) (x : Side) (s : StateName) (p : AcceptedData) (v : Counts) (b : Bool) (c : Channel) → total (weighing a f) (data_alike i x s p v b c).reported ≤ a + f p.length
alike_few a f i x s p v false c = let few = failing_few a f x s INCONSISTENT_Q_BIT_SETTING c in omega arith
alike_few a f i x s p v true c = data_reports_few a f x p c.pad_messages (completed_message i x c p)

counted_few : (a : ℕ) (f : ℕ → ℕ) (i : Interface) (x : Side) (s : StateName) (p : AcceptedData) (r : Result Counts ℕ) (c : Channel) → total (weighing a f) (data_counted i x s p r c).reported ≤ a + f p.length
counted_few a f i x s p (Err n) c = let few = failing_few a f x s n c in omega arith
counted_few a f i x s p (Ok v) c = alike_few a f i x s p v (is_alike p (begun (size_in_force i c x) x c.accepted)) c

-- no less than a finding with a data packet of no more octets than a row has
abbrev pub IsMost : ℕ → (ℕ → ℕ) → ℕ → Item → Type 0
IsMost a f b r = (n : ℕ) → n ≤ r.length → a + f n ≤ b

data_few : (a : ℕ) (f : ℕ → ℕ) (b : ℕ) (i : Interface) (s : StateName) (r : Item) (h : Option DataHeader) (c : Channel) → IsMost a f b r → total (weighing a f) (data_step i s r h c).reported ≤ b
data_few a f b i s r None c most = omega arith
data_few a f b i s r (Some h) c most =
    let few = counted_few a f i r.side s (accepted_of i r h) (count_data i.modulus (window_in_force i c r.side) (counts_of c) r.side h.send h.receive) c in
    let enough = most (accepted_of i r h).length (omega arith) in
    omega arith

counting_few : (a : ℕ) (f : ℕ → ℕ) (b : ℕ) (x : Side) (s : StateName) (r : Result Counts ℕ) (c : Channel) → a ≤ b → total (weighing a f) (counting x s r c).reported ≤ b
counting_few a f b x s (Err m) c enough = let few = failing_few a f x s m c in omega arith
counting_few a f b x s (Ok v) c enough = omega arith

transferring_few : (a : ℕ) (f : ℕ → ℕ) (b : ℕ) (i : Interface) (s : StateName) (k : Class) (r : Item) (c : Channel) → IsMost a f b r → total (weighing a f) (transferring i s k r c).reported ≤ b
transferring_few a f b i s Data r c most = data_few a f b i s r (header_in r.packet) c most
transferring_few a f b i s k r c most = counting_few a f b r.side s _ c (let enough = most 0 (omega arith) in omega arith)

pub verdict_few : (a : ℕ) (f : ℕ → ℕ) (b : ℕ) (i : Interface) (s : StateName) (r : Item) (v : Verdict) (c : Channel) → IsMost a f b r → total (weighing a f) (verdict_step i s r v c).reported ≤ b
verdict_few a f b i s r (Fails t n) c most =
    let few = failing_few a f r.side t n c in
    let enough = most 0 (omega arith) in
    omega arith
verdict_few a f b i s r (Moves t) c most = let none = changing_none a f r.octets (call_change r.side (packet_class r.packet) t) (entering t false c) in omega arith
verdict_few a f b i s r Transfers c most = transferring_few a f b i s (packet_class r.packet) r c most
verdict_few a f b i s r EndsOwed c most = omega arith
verdict_few a f b i s r Nothing c most = omega arith

pub packet_few : (a : ℕ) (f : ℕ → ℕ) (b : ℕ) (i : Interface) (k : ℕ) (c : Channel) (r : Item) → IsMost a f b r → total (weighing a f) (channel_step i k c r).reported ≤ b
packet_few a f b i k c r most =
    let j = judged (is_permanent i k) r.side c.state c.owed (packet_class r.packet) in
    verdict_few a f b i j.state r (verdict j (packet_fault i k c r)) c most

-- ---- the rows of a piece

pub stamp_weight : (a : ℕ) (f : ℕ → ℕ) (e : ℕ) (k : Option ℕ) (r : Item) (ws : List What) → weight (weighing a f) (map event_of (stamp e k r ws)) ≡ total (weighing a f) ws
stamp_weight a f e k r [] = refl
stamp_weight a f e k r (w ∷ ws) = ap (λ n. weighing a f w + n) (stamp_weight a f e k r ws)

pub total-ones : {X : Type 0} (xs : List X) → total (λ x. 1) xs ≡ length xs
total-ones [] = refl
total-ones (x ∷ xs) = omega (arith, total-ones xs)
