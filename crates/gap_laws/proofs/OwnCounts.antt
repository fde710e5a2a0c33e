-- A row counts its own call or its own data packet, or nothing, whatever is known of its channel.
use Rattle.std.proofs.Common.{◌≡◌, ◌⊎◌, inl, inr, ◌∙◌, ℕ, Bool, true, false, cond, eqb, not, ◌&&◌, ◌||◌, sym, Option, Some, None, List, [], ◌∷◌, ◌++◌, length, map, refl, ap}
use Rattle.std.specs.Prelude.{Result, Ok, Err, filter, is_some, option_and_then, option_to_list}
use Rattle.std.proofs.lemmas.Bool.{and_parts, false≢true}
use Rattle.std.proofs.lemmas.List.Elements.{filter-append}
use Rattle.line_model.specs.basics.Octets.{bits}
use Rattle.line_model.specs.basics.Records.{Item}
use Rattle.line_model.specs.channels.ChannelStep.{accepted_of, after_error, call_change, changing, completed_message, counting, counts_of, data_alike, data_counted, data_reports, data_step, ending, ending_open, entering, failing, judged, opening, option_found, report_nothing, transferring, verdict, verdict_step}
use Rattle.line_model.specs.channels.Channels.{AcceptedData, Channel, Opening, PadMessage, is_in_transfer, is_open, is_permanent, of_side, other}
use Rattle.line_model.specs.channels.FlowControl.{Counts, count_data, count_receive, is_side}
use Rattle.line_model.specs.channels.GapStep.{GapOutcome, accepting_in_doubt, acknowledged_data, adrift_carried, adrift_entry, adrift_fault, adrift_received, adrift_step_by, brought_up, calling_state, coming_up, completed_for_data, completed_for_receive, counted_in_doubt, counting_in_doubt, data_in_doubt, data_reported, failing_in_doubt, hidden_when_up, is_in_use, is_mixed, is_resetting, may_be_begun, message_in_doubt, packet_step, passing, receive_in_doubt, receive_of, settings_by_form, settings_in_doubt, settled_verdict, transferring_in_doubt, window_in_doubt}
use Rattle.line_model.specs.channels.Gaps.Certainty.{Adrift, Certain, Settled}
use Rattle.line_model.specs.channels.Gaps.{Certainty, Doubts, GapChannel, WhileAdrift, largest_terms}
use Rattle.line_model.specs.channels.Pad.{Pair, asked, events_of_set, events_of_settings, form_fault, indicated, indicated_by, is_indication, is_parameter, is_set, message_fault, standard_pairs, settings_after}
use Rattle.line_model.specs.channels.Sequences.{begun, eq_bool, is_alike}
use Rattle.line_model.specs.channels.Verdicts.CallChange.{Opens, GoesUp, Ends, Keeps}
use Rattle.line_model.specs.channels.Verdicts.Verdict.{Fails, Moves, Transfers, EndsOwed, Nothing}
use Rattle.line_model.specs.channels.Verdicts.{Verdict, CallChange}
use Rattle.line_model.specs.declared.diagnostic.TheConstants.{INCONSISTENT_Q_BIT_SETTING}
use Rattle.line_model.specs.declared.event.How.{How}
use Rattle.line_model.specs.declared.event.How.TheVariants.{Collision, Gap}
use Rattle.line_model.specs.declared.event.What.TheVariants.{Data as DataEvent}
use Rattle.line_model.specs.declared.event.What.{What}
use Rattle.line_model.specs.declared.finding.Xcode.TheVariants.{X3}
use Rattle.line_model.specs.declared.finding.Xcode.{Xcode}
use Rattle.line_model.specs.declared.gap.AdriftEntry.TheVariants.{OpensCall, Accepts, Clears, ConfirmsClear, Resets, ConfirmsReset, Carries, DoesNothing}
use Rattle.line_model.specs.declared.gap.AdriftEntry.{AdriftEntry}
use Rattle.line_model.specs.declared.gap.LastData.{LastData}
use Rattle.line_model.specs.declared.interface.Interface.{Interface}
use Rattle.line_model.specs.declared.packet.Class.TheVariants.{Call, Data, Interrupt, InterruptConfirm}
use Rattle.line_model.specs.declared.packet.Class.{Class}
use Rattle.line_model.specs.declared.packet.DataHeader.{DataHeader}
use Rattle.line_model.specs.declared.state.Side.TheVariants.{T, N}
use Rattle.line_model.specs.declared.state.Side.{Side}
use Rattle.line_model.specs.declared.state.StateName.TheVariants.{Dash, R1, R2, R3, P1, P2, P3, P4, P5, P6, P7, D1, D2, D3}
use Rattle.line_model.specs.declared.state.StateName.{StateName}
use Rattle.line_model.specs.observer.Observer.{row_step, step_by}
use Rattle.line_model.specs.packets.Classes.{packet_class}
use Rattle.line_model.specs.packets.Formats.{packet_fault, size_in_force, window_in_force}
use Rattle.line_model.specs.packets.Says.{gap_of, header_in, receive_in}
use Rattle.line_model.proofs.GapWeights.{either}
use Rattle.line_model.proofs.Every.{classes, every, every_class, every_flag, every_side, sides}
use Rattle.line_model.proofs.Marks.{same_bit}
use Rattle.gap_laws.specs.Thinned.{call_of, is_count}

abbrev pub counts : List What → List What
counts ws = filter is_count ws

-- events that count nothing, or just what they may
abbrev pub CountsOwn : List What → List What → Type 0
CountsOwn ws own = (counts ws ≡ []) ⊎ (counts ws ≡ own)

none_both : (us ws : List What) → counts us ≡ [] → counts ws ≡ [] → counts (us ++ ws) ≡ []
none_both us ws e f = filter-append is_count us ws ∙ (λ j. e j ++ f j)

own_behind : (us ws own : List What) → counts us ≡ [] → CountsOwn ws own → CountsOwn (us ++ ws) own
own_behind us ws own e (inl f) = inl (none_both us ws e f)
own_behind us ws own e (inr f) = inr (filter-append is_count us ws ∙ (λ j. e j ++ f j))

-- ---- what counts nothing

ending_none : (h : How) (o : Option Opening) (c : Channel) → counts (ending_open h o c).reported ≡ []
ending_none h None c = refl
ending_none h (Some o) c = refl

error_none : (s : StateName) (c : Channel) → counts (after_error s c).reported ≡ []
error_none D1 c = refl
error_none D2 c = refl
error_none D3 c = refl
error_none s c = ending_none _ c.opening _

failing_none : (x : Side) (s : StateName) (n : ℕ) (c : Channel) → counts (failing x s n c).reported ≡ []
failing_none T s n c = error_none s c
failing_none N s n c = refl

-- ---- a call is opened by the packet of a call

abbrev is_call : Class → Bool
is_call Call = true
is_call k = false

call_is : (k : Class) → is_call k ≡ true → k ≡ Call
call_is Call e = refl
call_is k e = absurd (false≢true e)

abbrev opens_fit : Side → Class → CallChange → Bool
opens_fit x k (Opens out) = is_call k && eq_bool out (is_side T x)
opens_fit x k g = true

abbrev all_fit : StateName → Bool
all_fit t = every (λ x. every (λ k. opens_fit x k (call_change x k t)) classes) sides

change_fits : (t : StateName) → all_fit t ≡ true
change_fits Dash = refl
change_fits R1 = refl
change_fits R2 = refl
change_fits R3 = refl
change_fits P1 = refl
change_fits P2 = refl
change_fits P3 = refl
change_fits P4 = refl
change_fits P5 = refl
change_fits P6 = refl
change_fits P7 = refl
change_fits D1 = refl
change_fits D2 = refl
change_fits D3 = refl

opens_call : (x : Side) (k : Class) (t : StateName) (out : Bool) → call_change x k t ≡ Opens out → (k ≡ Call) × (out ≡ is_side T x)
opens_call x k t out e =
    let fit = every_class (λ k. opens_fit x k (call_change x k t)) (every_side (λ x. every (λ k. opens_fit x k (call_change x k t)) classes) (change_fits t) x) k in
    let both = and_parts (is_call k) (eq_bool out (is_side T x)) (sym (ap (opens_fit x k) e) ∙ fit) in
    (call_is k both.0, same_bit out (is_side T x) both.1)

abbrev opens_entry : AdriftEntry → Bool
opens_entry OpensCall = true
opens_entry e = false

entry_call : (p : Bool) (k : Class) → adrift_entry p k ≡ OpensCall → k ≡ Call
entry_call p k e = call_is k (at (opens_entry (adrift_entry p k)) (ap opens_entry e) (every_class (λ k. not (opens_entry (adrift_entry p k)) || is_call k) (every_flag (λ p. every (λ k. not (opens_entry (adrift_entry p k)) || is_call k) classes) refl p) k))
  where
    at : (b : Bool) → b ≡ true → (not b || is_call k) ≡ true → is_call k ≡ true
    at true e h = h
    at false e h = absurd (false≢true e)

-- ---- what a row may count

-- its data or nothing; where it is the packet of a call, that call
pub data RowCounts (i : Interface) (r : Item) (ws : List What) : Type 0 where
  CountsData : CountsOwn ws (data_reported i r (header_in r.packet)) → RowCounts i r ws
  CountsCall : packet_class r.packet ≡ Call → counts ws ≡ call_of Call r → RowCounts i r ws

opened_counts : (h : How) (r : Item) (out : Bool) (c d : Channel) → out ≡ is_side T r.side → counts ((ending_open h c.opening c).reported ++ (opening out r.octets d).reported) ≡ call_of Call r
opened_counts h r out c d e =
    filter-append is_count (ending_open h c.opening c).reported (opening out r.octets d).reported
    ∙ (λ j. ending_none h c.opening c j ++ (opening (e j) r.octets d).reported)

changing_counts : (i : Interface) (r : Item) (t : StateName) (c : Channel) (g : CallChange) → call_change r.side (packet_class r.packet) t ≡ g → RowCounts i r (changing r.octets g c).reported
changing_counts i r t c (Opens out) e =
    let w = opens_call r.side (packet_class r.packet) t out e in
    CountsCall w.0 (opened_counts Collision r out c (ending Collision c).after w.1)
changing_counts i r t c GoesUp e = CountsData (inl refl)
changing_counts i r t c (Ends h) e = CountsData (inl (ending_none h c.opening c))
changing_counts i r t c Keeps e = CountsData (inl refl)

-- ---- settings count nothing

indicated_none : (b : Bool) (pad : Side) (p : Pair) → is_count (indicated_by b pad p) ≡ false
indicated_none true pad p = refl
indicated_none false pad p = refl

map_none : (g : Pair → What) → ((p : Pair) → is_count (g p) ≡ false) → (ps : List Pair) → counts (map g ps) ≡ []
map_none g h [] = refl
map_none g h (p ∷ ps) = ap (λ b. cond b (g p ∷ counts (map g ps)) (counts (map g ps))) (h p) ∙ map_none g h ps

set_none : (b : Bool) (x : Side) (xs : List ℕ) → counts (events_of_set b x xs) ≡ []
set_none true x xs = refl
set_none false x xs = map_none (asked (other x)) (λ p. refl) (filter (λ p. is_parameter p.reference) (standard_pairs xs))

settings_none : (b d : Bool) (x : Side) (xs : List ℕ) → counts (events_of_settings b d x xs) ≡ []
settings_none true d x xs = map_none (indicated x) (λ p. indicated_none (eqb (bits 8 8 p.reference) 1) x p) (filter (λ p. is_parameter (bits 7 1 p.reference)) (standard_pairs xs))
settings_none false true x xs = set_none (eqb (length xs) 1) x xs
settings_none false false x xs = refl

after_none : (e : Option Xcode) (x : Side) (xs : List ℕ) → counts (settings_after e x xs) ≡ []
after_none None x xs = settings_none (is_indication xs) (is_set xs) x xs
after_none (Some X3) x xs = settings_none (is_indication xs) (is_set xs) x xs
after_none (Some e) x xs = refl

up_none : (i : Interface) (c : Channel) → counts (brought_up i c).reported ≡ []
up_none i c = at (is_in_transfer c)
  where
    at : (q : Bool) → counts (either q (report_nothing c) (coming_up (largest_terms i) c)).reported ≡ []
    at true = refl
    at false = refl

-- ---- a channel of which all is certain

reports_own : (x : Side) (p : AcceptedData) (ms : List PadMessage) (m : Option (List ℕ)) → counts (data_reports x p ms m) ≡ DataEvent x p.length ∷ []
reports_own x p ms None = refl
reports_own x p ms (Some m) = at (message_fault x ms m)
  where
    at : (e : Option Xcode) → counts (option_to_list (option_found x e) ++ DataEvent x p.length ∷ settings_after e x m) ≡ DataEvent x p.length ∷ []
    at None = ap (λ l. DataEvent x p.length ∷ l) (after_none None x m)
    at (Some e) = ap (λ l. DataEvent x p.length ∷ l) (after_none (Some e) x m)

alike_own : (i : Interface) (x : Side) (s : StateName) (p : AcceptedData) (v : Counts) (b : Bool) (c : Channel) → CountsOwn (data_alike i x s p v b c).reported (DataEvent x p.length ∷ [])
alike_own i x s p v false c = inl (failing_none x s INCONSISTENT_Q_BIT_SETTING c)
alike_own i x s p v true c = inr (reports_own x p c.pad_messages (completed_message i x c p))

counted_own : (i : Interface) (x : Side) (s : StateName) (p : AcceptedData) (r : Result Counts ℕ) (c : Channel) → CountsOwn (data_counted i x s p r c).reported (DataEvent x p.length ∷ [])
counted_own i x s p (Err n) c = inl (failing_none x s n c)
counted_own i x s p (Ok v) c = alike_own i x s p v (is_alike p (begun (size_in_force i c x) x c.accepted)) c

data_own : (i : Interface) (s : StateName) (r : Item) (h : Option DataHeader) (c : Channel) → CountsOwn (data_step i s r h c).reported (data_reported i r h)
data_own i s r None c = inl refl
data_own i s r (Some h) c = counted_own i r.side s (accepted_of i r h) (count_data i.modulus (window_in_force i c r.side) (counts_of c) r.side h.send h.receive) c

counting_none : (x : Side) (s : StateName) (r : Result Counts ℕ) (c : Channel) → counts (counting x s r c).reported ≡ []
counting_none x s (Err m) c = failing_none x s m c
counting_none x s (Ok v) c = refl

transferring_own : (i : Interface) (s : StateName) (k : Class) (r : Item) (c : Channel) → CountsOwn (transferring i s k r c).reported (data_reported i r (header_in r.packet))
transferring_own i s Data r c = data_own i s r (header_in r.packet) c
transferring_own i s Interrupt r c = inl (counting_none r.side s _ c)
transferring_own i s InterruptConfirm r c = inl (counting_none r.side s _ c)
transferring_own i s k r c = inl (counting_none r.side s _ c)

verdict_counts : (i : Interface) (s : StateName) (r : Item) (v : Verdict) (c : Channel) → RowCounts i r (verdict_step i s r v c).reported
verdict_counts i s r (Fails t n) c = CountsData (inl (failing_none r.side t n c))
verdict_counts i s r (Moves t) c = changing_counts i r t (entering t false c) (call_change r.side (packet_class r.packet) t) refl
verdict_counts i s r Transfers c = CountsData (transferring_own i s (packet_class r.packet) r c)
verdict_counts i s r EndsOwed c = CountsData (inl refl)
verdict_counts i s r Nothing c = CountsData (inl refl)

-- ---- a channel adrift

own_if : (own : List What) (q : Bool) (o p : GapOutcome) → CountsOwn o.reported own → CountsOwn p.reported own → CountsOwn (either q o p).reported own
own_if own true o p h k = h
own_if own false o p h k = k

reported_own : (i : Interface) (r : Item) (h : Option DataHeader) → CountsOwn (data_reported i r h) (data_reported i r h)
reported_own i r None = inl refl
reported_own i r (Some h) = inr refl

received_own : (i : Interface) (r : Item) (w : WhileAdrift) (g : GapChannel) (n : Option ℕ) (l : Option LastData) → CountsOwn (adrift_received i r w g n l).reported (data_reported i r (header_in r.packet))
received_own i r w g (Some n) (Some l) = reported_own i r (header_in r.packet)
received_own i r w g (Some n) None = reported_own i r (header_in r.packet)
received_own i r w g None l = reported_own i r (header_in r.packet)

carried_own : (i : Interface) (r : Item) (w : WhileAdrift) (g : GapChannel) → CountsOwn (adrift_carried i r w g).reported (data_reported i r (header_in r.packet))
carried_own i r w g = own_if _ (is_resetting (other r.side) g.channel.state) _ _ (inl refl) (received_own i r w g (receive_of r) (option_and_then (acknowledged_data w r.side) (receive_of r)))

entry_counts : (e : AdriftEntry) (i : Interface) (n : ℕ) (r : Item) (w : WhileAdrift) (g : GapChannel) → adrift_entry (is_permanent i n) (packet_class r.packet) ≡ e → RowCounts i r (adrift_step_by e i n r w g).reported
entry_counts OpensCall i n r w g e =
    let c : Channel = entering (calling_state r.side) false g.channel in
    CountsCall (entry_call (is_permanent i n) (packet_class r.packet) e) (opened_counts Gap r (is_side T r.side) c (ending Gap c).after refl)
entry_counts Accepts i n r w g e = CountsData (own_if _ (is_open g.channel && not (is_in_transfer g.channel)) _ _ (inl refl) (inl refl))
entry_counts Clears i n r w g e = CountsData (inl (ending_none _ g.channel.opening _))
entry_counts ConfirmsClear i n r w g e = CountsData (inl (ending_none _ g.channel.opening _))
entry_counts Resets i n r w g e = CountsData (own_if _ (is_in_use i n g.channel) _ _ (inl (none_both (brought_up i g.channel).reported [] (up_none i g.channel) refl)) (inl refl))
entry_counts ConfirmsReset i n r w g e = CountsData (own_if _ (is_in_use i n g.channel) _ _ (inl (none_both (brought_up i g.channel).reported [] (up_none i g.channel) refl)) (inl refl))
entry_counts Carries i n r w g e =
    CountsData (own_if _ (is_in_use i n g.channel) _ _
    (own_behind (brought_up i g.channel).reported _ _ (up_none i g.channel) (carried_own i r (record w { hidden = hidden_when_up w g.channel }) (record g { channel = (brought_up i g.channel).after }))) (inl refl))
entry_counts DoesNothing i n r w g e = CountsData (inl refl)

-- ---- a settled channel

form_none : (q : Bool) (x : Side) (m : List ℕ) → counts (settings_by_form q x m) ≡ []
form_none true x m = refl
form_none false x m = settings_none (is_indication m) (is_set m) x m

message_none : (x : Side) (m : Option (List ℕ)) → counts (settings_in_doubt x m) ≡ []
message_none x None = refl
message_none x (Some m) = form_none (is_some (form_fault m)) x m

doubt_none : (x : Side) (s : StateName) (v : Result Counts ℕ) (t u : Doubts) (d c : Channel) → counts (counting_in_doubt x s v t u d c).outcome.reported ≡ []
doubt_none x s (Err n) t u d c = failing_none x s n c
doubt_none x s (Ok v) t u d c = refl

mixed_own : (q : Bool) (m : ℕ) (x : Side) (s : StateName) (size : ℕ) (p : AcceptedData) (v : Counts) (message : Option (List ℕ)) (t : Doubts) (d c : Channel)
    → CountsOwn (either q (failing_in_doubt x s INCONSISTENT_Q_BIT_SETTING t c) (accepting_in_doubt m x size p v message t d)).outcome.reported (DataEvent x p.length ∷ [])
mixed_own true m x s size p v message t d c = inl (failing_none x s INCONSISTENT_Q_BIT_SETTING c)
mixed_own false m x s size p v message t d c = inr (ap (λ l. DataEvent x p.length ∷ l) (message_none x message))

doubted_own : (m : ℕ) (x : Side) (s : StateName) (size : ℕ) (p : AcceptedData) (v : Result Counts ℕ) (t : Doubts) (d c : Channel) → CountsOwn (counted_in_doubt m x s size p v t d c).outcome.reported (DataEvent x p.length ∷ [])
doubted_own m x s size p (Err n) t d c = inl (failing_none x s n c)
doubted_own m x s size p (Ok v) t d c =
    let hs = may_be_begun t.hidden size x d.accepted in
    mixed_own (is_mixed t.hidden (of_side x t.sequences) p hs) m x s size p v (message_in_doubt t.hidden (of_side x t.sequences) size p hs d) t d c

data_doubted : (i : Interface) (s : StateName) (r : Item) (h : Option DataHeader) (t : Doubts) (c : Channel) → CountsOwn (data_in_doubt i s r h t c).outcome.reported (data_reported i r h)
data_doubted i s r None t c = inl refl
data_doubted i s r (Some h) t c =
    let d = completed_for_data i.modulus t r.side h c in
    doubted_own i.modulus r.side s (size_in_force i c r.side) (accepted_of i r h) (count_data i.modulus (window_in_doubt i t c r.side) (counts_of d) r.side h.send h.receive) t d c

receive_none : (m : ℕ) (x : Side) (s : StateName) (n : Option ℕ) (t : Doubts) (c : Channel) → counts (receive_in_doubt m x s n t c).outcome.reported ≡ []
receive_none m x s None t c = refl
receive_none m x s (Some n) t c =
    let d = completed_for_receive m t x n c in
    doubt_none x s (count_receive m (counts_of d) x n) t t d c

doubt_own : (i : Interface) (s : StateName) (k : Class) (r : Item) (t : Doubts) (c : Channel) → CountsOwn (transferring_in_doubt i s k r t c).outcome.reported (data_reported i r (header_in r.packet))
doubt_own i s Data r t c = data_doubted i s r (header_in r.packet) t c
doubt_own i s Interrupt r t c = inl (doubt_none r.side s _ t _ _ c)
doubt_own i s InterruptConfirm r t c = inl (doubt_none r.side s _ t _ _ c)
doubt_own i s k r t c = inl (receive_none i.modulus r.side s (receive_in r.packet) t c)

settled_counts : (i : Interface) (s : StateName) (r : Item) (v : Verdict) (t : Doubts) (c : Channel) → RowCounts i r (settled_verdict i s r v t c).outcome.reported
settled_counts i s r Transfers t c = CountsData (doubt_own i s (packet_class r.packet) r t c)
settled_counts i s r (Fails q n) t c = verdict_counts i s r (Fails q n) c
settled_counts i s r (Moves q) t c = verdict_counts i s r (Moves q) c
settled_counts i s r EndsOwed t c = verdict_counts i s r EndsOwed c
settled_counts i s r Nothing t c = verdict_counts i s r Nothing c

-- ---- a row

certainty_counts : (t : Certainty) (i : Interface) (n : ℕ) (r : Item) (g : GapChannel) → RowCounts i r (packet_step t i n r g).reported
certainty_counts Certain i n r g =
    let j = judged (is_permanent i n) r.side g.channel.state g.channel.owed (packet_class r.packet) in
    verdict_counts i j.state r (verdict j (packet_fault i n g.channel r)) g.channel
certainty_counts (Adrift w) i n r g = at (is_some (adrift_fault i n g.channel r))
  where
    at : (q : Bool) → RowCounts i r (either q (passing g) (adrift_step_by (adrift_entry (is_permanent i n) (packet_class r.packet)) i n r w g)).reported
    at true = CountsData (inl refl)
    at false = entry_counts (adrift_entry (is_permanent i n) (packet_class r.packet)) i n r w g refl
certainty_counts (Settled t) i n r g =
    let j = judged (is_permanent i n) r.side g.channel.state g.channel.owed (packet_class r.packet) in
    settled_counts i j.state r (verdict j (packet_fault i n g.channel r)) t g.channel

pub row_counts : (i : Interface) (k : ℕ) (g : GapChannel) (r : Item) → RowCounts i r (row_step i k g r).reported
row_counts i k g r = at (gap_of r.packet)
  where
    at : (gap : Option (Option ℕ)) → RowCounts i r (step_by gap i k g r).reported
    at None = certainty_counts g.certainty i k r g
    at (Some c) = CountsData (inl refl)
