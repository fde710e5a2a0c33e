-- What the routes of the restart machine say of r1, before a step and after it.
use Rattle.std.proofs.Common.{◌≡◌, ◌∙◌, sym, ap, refl, ℕ, Bool, true, false, true≢false, ◌&&◌, not, Option, Some, None}
use Rattle.line_model.specs.declared.packet.Class.{Class}
use Rattle.line_model.specs.declared.packet.Class.TheVariants.{Restart, RestartConfirm}
use Rattle.line_model.specs.declared.state.Side.{Side}
use Rattle.line_model.specs.declared.state.Side.TheVariants.{T, N}
use Rattle.line_model.specs.declared.state.RState.{RState}
use Rattle.line_model.specs.declared.state.StateName.{StateName}
use Rattle.line_model.specs.declared.state.RState.TheVariants.{R1, R2, R3}
use Rattle.line_model.specs.declared.table.Action.{Action}
use Rattle.line_model.specs.declared.table.Action.TheVariants.{Move, Normal, Error, Discard, Pass as PassEntry, Ends, Below, ToChannel as ChannelEntry}
use Rattle.line_model.specs.declared.route.Route.{Route}
use Rattle.line_model.specs.declared.route.Route.TheVariants.{Pass, Found, Leave, Enter, Renew, ToChannel}
use Rattle.line_model.specs.channels.Sequences.{eq_bool}
use Rattle.line_model.specs.channels.Tables.{action}
use Rattle.line_model.specs.basics.Records.{Item}
use Rattle.line_model.specs.packets.Classes.{packet_class}
use Rattle.line_model.specs.packets.Says.{gap_of}
use Rattle.line_model.specs.channels.FlowControl.{is_side}
use Rattle.line_model.specs.channels.RestartMachine.{InterfaceState, Routing, is_outside, level_in_r1, restart_name, outside_step, restart_moving, restart_error, restart_fault, restart_step, passes_joining, inside_step, level_step}
use Rattle.line_model.specs.channels.GapRestart.{GapInterfaceState, GapRouting, adrift_restart, gap_in, gap_level_step, gap_on, gap_routing, is_of_all, is_of_restart, is_ready, level_in_r1_with, level_stays, level_takes, routing, routing_by}
use Rattle.line_model.specs.observer.Observer.{handed, is_renewal}
use Rattle.std.proofs.lemmas.Bool.{and_parts}
use Rattle.line_model.proofs.Every.{every, flags, sides, classes, every_flag, every_side, every_class}
use Rattle.line_model.proofs.Marks.{same_bit}

-- an entry of the restart table, for a packet with this fault of format
abbrev acted : InterfaceState → Side → Option ℕ → Action → Routing
acted l x f (Move s) = restart_moving l s f
acted l x f (Error n) = restart_error l x n
acted l x f Ends = record { route = Pass; after = record l { owed = false } }
acted l x f ChannelEntry = record { route = ToChannel; after = l }
acted l x f _ = record { route = Pass; after = l }

abbrev acted_inside : (passes : Bool) → InterfaceState → Side → Option ℕ → Class → Routing
acted_inside true l x f k = record { route = Pass; after = l }
acted_inside false l x f k = acted l x f (action x (restart_name l.state) l.owed k)

-- a step, by the fault of the packet's format in place of its length
abbrev stepped : InterfaceState → Side → Option ℕ → Class → Routing
stepped l x f k = elim (is_outside k) [
  | true ↦ outside_step l (action x (restart_name l.state) l.owed k)
  | false ↦ acted_inside (passes_joining l k) l x f k
]

acts : (l : InterfaceState) (x : Side) (k : Class) (n : ℕ) (a : Action) → restart_step l x k n a ≡ acted l x (restart_fault k n) a
acts l x k n (Move s) = refl
acts l x k n (Error c) = refl
acts l x k n Ends = refl
acts l x k n ChannelEntry = refl
acts l x k n Normal = refl
acts l x k n Discard = refl
acts l x k n PassEntry = refl
acts l x k n Below = refl

acts_inside : (passes : Bool) (l : InterfaceState) (x : Side) (k : Class) (n : ℕ) → inside_step passes l x k n ≡ acted_inside passes l x (restart_fault k n) k
acts_inside true l x k n = refl
acts_inside false l x k n = acts l x k n (action x (restart_name l.state) l.owed k)

by_flag : (v : Bool) (a b c : Routing) → b ≡ c → (let r : Routing = elim v [ true ↦ a | false ↦ b ] in r) ≡ (let s : Routing = elim v [ true ↦ a | false ↦ c ] in s)
by_flag true a b c e = refl
by_flag false a b c e = e

steps : (l : InterfaceState) (x : Side) (k : Class) (n : ℕ) → level_step l x k n ≡ stepped l x (restart_fault k n) k
steps l x k n = by_flag (is_outside k) _ _ _ (acts_inside (passes_joining l k) l x k n)

-- r1 before a step and after it, by its route
abbrev pub fits_route : (before after : Bool) → Route → Bool
fits_route b a ToChannel = b && a
fits_route b a (Leave c) = b && not a
fits_route b a Enter = not b && a
fits_route b a Renew = b && a
fits_route b a Pass = eq_bool b a
fits_route b a (Found s n) = eq_bool b a

abbrev pub is_to_channel : Route → Bool
is_to_channel ToChannel = true
is_to_channel _ = false

-- the interface level stays as it is where a row goes to its channel
abbrev pub level_of : RState → (owed joining : Bool) → InterfaceState
level_of s w j = record { state = s; owed = w; joining = j }

-- a restart machine of an interface that is not adrift
abbrev pub calm : InterfaceState → GapInterfaceState
calm l = record { level = l; adrift = false; owed_before = false }

abbrev fits_at : RState → (owed joining : Bool) → Side → Option ℕ → Class → Bool
fits_at s w j x f k =
    let r : Routing = stepped (level_of s w j) x f k in
    fits_route (is_ready (calm (level_of s w j))) (is_ready (calm r.after)) r.route

-- a test of all flags, sides and classes
abbrev for_all : (Bool → Bool → Side → Class → Bool) → Bool
for_all t = every (λ w. every (λ j. every (λ x. every (t w j x) classes) sides) flags) flags

one_of_all : (t : Bool → Bool → Side → Class → Bool) → for_all t ≡ true → (w j : Bool) (x : Side) (k : Class) → t w j x k ≡ true
one_of_all t h w j x k =
    every_class (t w j x)
    (every_side (λ y. every (t w j y) classes)
    (every_flag (λ i. every (λ y. every (t w i y) classes) sides)
    (every_flag (λ v. every (λ i. every (λ y. every (t v i y) classes) sides) flags) h w) j) x) k

all_fit : (s : RState) (f : Option ℕ) → for_all (λ w j x k. fits_at s w j x f k) ≡ true
all_fit R1 None = refl
all_fit R1 (Some n) = refl
all_fit R2 None = refl
all_fit R2 (Some n) = refl
all_fit R3 None = refl
all_fit R3 (Some n) = refl

level_fits : (l : InterfaceState) (x : Side) (k : Class) (n : ℕ) → fits_route (is_ready (calm l)) (is_ready (calm (level_step l x k n).after)) (level_step l x k n).route ≡ true
level_fits l x k n =
    ap (λ r. fits_route (is_ready (calm l)) (is_ready (calm r.after)) r.route) (steps l x k n)
    ∙ one_of_all (λ w j y c. fits_at l.state w j y (restart_fault k n) c) (all_fit l.state (restart_fault k n)) l.owed l.joining x k

-- in r1 a row goes to its channel or not whatever else the interface level holds
abbrev alike_at : (owed joining : Bool) → Side → Option ℕ → Class → Bool
alike_at w j x f k = eq_bool (is_to_channel (stepped (level_of R1 w j) x f k).route) (is_to_channel (stepped (level_in_r1 false) x f k).route)

all_alike : (f : Option ℕ) → for_all (λ w j x k. alike_at w j x f k) ≡ true
all_alike None = refl
all_alike (Some n) = refl

alike_in_r1 : (w j : Bool) (x : Side) (k : Class) (n : ℕ) → is_to_channel (level_step (level_of R1 w j) x k n).route ≡ is_to_channel (level_step (level_in_r1 false) x k n).route
alike_in_r1 w j x k n =
    ap (λ r. is_to_channel r.route) (steps (level_of R1 w j) x k n)
    ∙ same_bit _ _ (one_of_all (λ v i y c. alike_at v i y (restart_fault k n) c) (all_alike (restart_fault k n)) w j x k)
    ∙ sym (ap (λ r. is_to_channel r.route) (steps (level_in_r1 false) x k n))

-- ---- with gaps

abbrev Fits : GapInterfaceState → GapRouting → Type 0
Fits g t = fits_route (is_ready g) (is_ready t.after) t.route ≡ true

same_flag : (b : Bool) → eq_bool b b ≡ true
same_flag true = refl
same_flag false = refl

-- the state of a restart machine, whatever else it holds
ready_in : (g : GapInterfaceState) (s : RState) (b : Bool) → g.level.state ≡ s → is_ready (record g { level = level_of s g.level.owed g.level.joining }) ≡ b → is_ready g ≡ b
ready_in g s b e h = ap (λ t. is_ready (record g { level = level_of t g.level.owed g.level.joining })) e ∙ h

not_ready : (g : GapInterfaceState) (s : RState) → g.level.state ≡ s → is_ready (record g { level = level_of s g.level.owed g.level.joining }) ≡ false → is_ready g ≡ true → ⊥
not_ready g s e h ready = true≢false (sym ready ∙ ready_in g s false e h)

confirmation_fits : (b : Bool) (g : GapInterfaceState) → is_ready g ≡ true →
    Fits g (let t : GapRouting = elim b [ true ↦ level_stays g | false ↦ record { route = Renew; after = level_in_r1_with false false } ] in t)
confirmation_fits true g ready = same_flag (is_ready g)
confirmation_fits false g ready = ap (λ b. b && true) ready

adrift_fits : (g : GapInterfaceState) (x : Side) (k : Class) (f : Option ℕ) → is_ready g ≡ true → Fits g (adrift_restart x k f g)
adrift_fits g x k (Some f) ready = same_flag (is_ready g)
adrift_fits g x RestartConfirm None ready = confirmation_fits (is_side N x && g.owed_before) g ready
adrift_fits g x k None ready = ap (λ b. b && true) ready

-- a packet, where it is of a restart in an interface adrift, and where it is not
abbrev pub stepped_if : (adrift : Bool) → GapInterfaceState → Side → Class → (length : ℕ) → GapRouting
stepped_if v g x k n = elim v [
  | true ↦ adrift_restart x k (restart_fault k n) g
  | false ↦ level_takes g (level_step g.level x k n)
]

step_fits : (g : GapInterfaceState) (x : Side) (k : Class) (n : ℕ) → Fits g (gap_level_step g x k n)
step_fits g x k n = at (g.adrift && is_ready g && is_of_restart k) refl
  where
    at : (v : Bool) → (g.adrift && is_ready g && is_of_restart k) ≡ v → Fits g (stepped_if v g x k n)
    at true h = adrift_fits g x k (restart_fault k n) (and_parts g.adrift (is_ready g) (and_parts (g.adrift && is_ready g) (is_of_restart k) h).0).1
    at false h = level_fits g.level x k n

gap_fits : (g : GapInterfaceState) (c : Option ℕ) (s : RState) → g.level.state ≡ s → Fits g (let t : GapRouting = elim c [ None ↦ gap_in s g | Some k ↦ gap_on s g ] in t)
gap_fits g None R1 e = same_flag (is_ready g)
gap_fits g None R2 e = ap (λ b. not b && true) (ready_in g R2 false e refl)
gap_fits g None R3 e = ap (λ b. not b && true) (ready_in g R3 false e refl)
gap_fits g (Some c) R1 e = ap (λ b. b && b) (ready_in g R1 true e refl)
gap_fits g (Some c) R2 e = same_flag (is_ready g)
gap_fits g (Some c) R3 e = same_flag (is_ready g)

pub fits : (g : GapInterfaceState) (r : Item) → fits_route (is_ready g) (is_ready (routing g r).after) (routing g r).route ≡ true
fits g r = at (gap_of r.packet)
  where
    at : (o : Option (Option ℕ)) → Fits g (routing_by o g r.side (packet_class r.packet) r.length)
    at None = step_fits g r.side (packet_class r.packet) r.length
    at (Some None) = gap_fits g None g.level.state refl
    at (Some (Some c)) = gap_fits g (Some c) g.level.state refl

-- a gap of all channels goes to none, and in r1 it is passed
pub gap_of_all : (g : GapInterfaceState) (s : RState) → is_to_channel (gap_in s g).route ≡ false
gap_of_all g R1 = refl
gap_of_all g R2 = refl
gap_of_all g R3 = refl

pub all_passes : (g : GapInterfaceState) (r : Item) → is_of_all (gap_of r.packet) ≡ true → is_ready g ≡ true → (routing g r).route ≡ Pass
all_passes g r h ready = at (gap_of r.packet) h
  where
    in_state : (s : RState) → g.level.state ≡ s → (gap_in s g).route ≡ Pass
    in_state R1 e = refl
    in_state R2 e = absurd (not_ready g R2 e refl ready)
    in_state R3 e = absurd (not_ready g R3 e refl ready)

    at : (o : Option (Option ℕ)) → is_of_all o ≡ true → (routing_by o g r.side (packet_class r.packet) r.length).route ≡ Pass
    at None h = absurd (true≢false (sym h))
    at (Some None) h = in_state g.level.state refl
    at (Some (Some c)) h = absurd (true≢false (sym h))

-- a gap of all channels that is passed finds r1
pub passed_ready : (g : GapInterfaceState) (r : Item) → is_of_all (gap_of r.packet) ≡ true → (routing g r).route ≡ Pass → is_ready g ≡ true
passed_ready g r h pass = at (gap_of r.packet) h pass
  where
    in_state : (s : RState) → g.level.state ≡ s → (gap_in s g).route ≡ Pass → is_ready g ≡ true
    in_state R1 e q = ready_in g R1 true e refl
    in_state R2 e q = cc
    in_state R3 e q = cc

    at : (o : Option (Option ℕ)) → is_of_all o ≡ true → (routing_by o g r.side (packet_class r.packet) r.length).route ≡ Pass → is_ready g ≡ true
    at None h q = absurd (true≢false (sym h))
    at (Some None) h q = in_state g.level.state refl q
    at (Some (Some c)) h q = absurd (true≢false (sym h))

-- whether a route ends an epoch
abbrev pub is_leaving : Route → Bool
is_leaving (Leave c) = true
is_leaving Renew = true
is_leaving _ = false

gap_stays : (g : GapInterfaceState) (s : RState) → is_leaving (gap_in s g).route ≡ false
gap_stays g R1 = refl
gap_stays g R2 = refl
gap_stays g R3 = refl

-- a row that ends an epoch is no gap of all channels
pub leaving_own : (g : GapInterfaceState) (r : Item) → is_leaving (routing g r).route ≡ true → is_of_all (gap_of r.packet) ≡ false
leaving_own g r h = at (gap_of r.packet) h
  where
    at : (o : Option (Option ℕ)) → is_leaving (routing_by o g r.side (packet_class r.packet) r.length).route ≡ true → is_of_all o ≡ false
    at None h = refl
    at (Some None) h = absurd (true≢false (sym h ∙ gap_stays g g.level.state))
    at (Some (Some c)) h = refl

-- nor is one with a finding
pub found_own : (g : GapInterfaceState) (r : Item) (s : StateName) (n : ℕ) → (routing g r).route ≡ Found s n → is_of_all (gap_of r.packet) ≡ false
found_own g r s n h = at (gap_of r.packet) h
  where
    in_state : (t : RState) → (gap_in t g).route ≡ Found s n → ⊥
    in_state R1 q = cc
    in_state R2 q = cc
    in_state R3 q = cc

    at : (o : Option (Option ℕ)) → (routing_by o g r.side (packet_class r.packet) r.length).route ≡ Found s n → is_of_all o ≡ false
    at None q = refl
    at (Some None) q = absurd (in_state g.level.state q)
    at (Some (Some c)) q = refl

-- a row that goes to its channel is for no other
pub not_for_all : (g : GapInterfaceState) (r : Item) → is_to_channel (routing g r).route ≡ true → is_of_all (gap_of r.packet) ≡ false
not_for_all g r h = at (gap_of r.packet) h
  where
    at : (o : Option (Option ℕ)) → is_to_channel (routing_by o g r.side (packet_class r.packet) r.length).route ≡ true → is_of_all o ≡ false
    at None h = refl
    at (Some None) h = absurd (true≢false (sym h ∙ gap_of_all g g.level.state))
    at (Some (Some c)) h = refl

confirmation_no : (b : Bool) (g : GapInterfaceState) → is_to_channel (let t : GapRouting = elim b [ true ↦ level_stays g | false ↦ record { route = Renew; after = level_in_r1_with false false } ] in t).route ≡ false
confirmation_no true g = refl
confirmation_no false g = refl

-- a packet of a restart goes to no channel
pub adrift_no : (g : GapInterfaceState) (x : Side) (k : Class) (f : Option ℕ) → is_to_channel (adrift_restart x k f g).route ≡ false
adrift_no g x k (Some f) = refl
adrift_no g x RestartConfirm None = confirmation_no (is_side N x && g.owed_before) g
adrift_no g x k None = refl

restart_no : (x : Side) (f : Option ℕ) (k : Class) → is_of_restart k ≡ true → is_to_channel (stepped (level_in_r1 false) x f k).route ≡ false
restart_no T None Restart h = refl
restart_no T (Some f) Restart h = refl
restart_no N None Restart h = refl
restart_no N (Some f) Restart h = refl
restart_no T None RestartConfirm h = refl
restart_no T (Some f) RestartConfirm h = refl
restart_no N None RestartConfirm h = refl
restart_no N (Some f) RestartConfirm h = refl
restart_no x f k h = absurd (true≢false (sym h))

level_alike : (s : RState) (w j : Bool) (x : Side) (k : Class) (n : ℕ) → is_ready (calm (level_of s w j)) ≡ true → is_to_channel (level_step (level_of s w j) x k n).route ≡ is_to_channel (level_step (level_in_r1 false) x k n).route
level_alike R1 w j x k n h = alike_in_r1 w j x k n
level_alike R2 w j x k n h = absurd (true≢false (sym h))
level_alike R3 w j x k n h = absurd (true≢false (sym h))

-- a row goes to its channel in r1 as it does where nothing is owed and the interface is not adrift
pub alike : (g : GapInterfaceState) (r : Item) → is_ready g ≡ true → is_to_channel (routing g r).route ≡ is_to_channel (routing (level_in_r1_with false false) r).route
alike g r ready = at (gap_of r.packet)
  where
    k : Class
    k = packet_class r.packet

    in_state : (c : Option ℕ) (s : RState) → g.level.state ≡ s
        → is_to_channel (let t : GapRouting = elim c [ None ↦ gap_in s g | Some j ↦ gap_on s g ] in t).route ≡ is_to_channel (gap_routing c (level_in_r1_with false false)).route
    in_state None R1 e = refl
    in_state (Some c) R1 e = refl
    in_state c R2 e = absurd (not_ready g R2 e refl ready)
    in_state c R3 e = absurd (not_ready g R3 e refl ready)

    by : (v : Bool) → (g.adrift && is_ready g && is_of_restart k) ≡ v → is_to_channel (stepped_if v g r.side k r.length).route ≡ is_to_channel (level_step (level_in_r1 false) r.side k r.length).route
    by true h =
        let is = (and_parts (g.adrift && is_ready g) (is_of_restart k) h).1 in
        adrift_no g r.side k (restart_fault k r.length)
        ∙ sym (ap (λ t. is_to_channel t.route) (steps (level_in_r1 false) r.side k r.length) ∙ restart_no r.side (restart_fault k r.length) k is)
    by false h = level_alike g.level.state g.level.owed g.level.joining r.side k r.length ready

    at : (o : Option (Option ℕ)) → is_to_channel (routing_by o g r.side k r.length).route ≡ is_to_channel (routing_by o (level_in_r1_with false false) r.side k r.length).route
    at None = by (g.adrift && is_ready g && is_of_restart k) refl
    at (Some None) = in_state None g.level.state refl
    at (Some (Some c)) = in_state (Some c) g.level.state refl

-- a route to a channel hands the row to it, and no other route does
pub handed_to : (route : Route) (k : ℕ) → is_to_channel route ≡ true → handed route k ≡ Some k
handed_to ToChannel k h = refl
handed_to Pass k h = absurd (true≢false (sym h))
handed_to (Found s n) k h = absurd (true≢false (sym h))
handed_to (Leave c) k h = absurd (true≢false (sym h))
handed_to Enter k h = absurd (true≢false (sym h))
handed_to Renew k h = absurd (true≢false (sym h))

pub handed_none : (route : Route) (k : ℕ) → is_to_channel route ≡ false → handed route k ≡ None
handed_none ToChannel k h = absurd (true≢false h)
handed_none Pass k h = refl
handed_none (Found s n) k h = refl
handed_none (Leave c) k h = refl
handed_none Enter k h = refl
handed_none Renew k h = refl

-- whether r1 is the state after a route that ends an epoch: then the next one has begun
pub leaves_at : (b a : Bool) (route : Route) → is_leaving route ≡ true → fits_route b a route ≡ true → (b ≡ true) × (a ≡ is_renewal route)
leaves_at b a (Leave c) is h = by b a h
  where
    by : (v u : Bool) → (v && not u) ≡ true → (v ≡ true) × (u ≡ false)
    by true false e = (refl, refl)
    by true true e = absurd (true≢false (sym e))
    by false u e = absurd (true≢false (sym e))
leaves_at b a Renew is h = and_parts b a h
leaves_at b a Pass is h = absurd (true≢false (sym is))
leaves_at b a (Found s n) is h = absurd (true≢false (sym is))
leaves_at b a ToChannel is h = absurd (true≢false (sym is))
leaves_at b a Enter is h = absurd (true≢false (sym is))

pub leaving_level : (route : Route) → is_leaving route ≡ true → is_to_channel route ≡ false
leaving_level (Leave c) h = refl
leaving_level Renew h = refl
leaving_level Pass h = refl
leaving_level (Found s n) h = refl
leaving_level Enter h = refl
leaving_level ToChannel h = absurd (true≢false (sym h))

pub enters_at : (b a : Bool) (route : Route) → route ≡ Enter → fits_route b a route ≡ true → (b ≡ false) × (a ≡ true)
enters_at b a route is h = by b a (ap (fits_route b a) (sym is) ∙ h)
  where
    by : (v u : Bool) → (not v && u) ≡ true → (v ≡ false) × (u ≡ true)
    by false true e = (refl, refl)
    by false false e = absurd (true≢false (sym e))
    by true u e = absurd (true≢false (sym e))

-- neither left nor entered
abbrev pub is_quiet : Route → Bool
is_quiet Pass = true
is_quiet (Found s n) = true
is_quiet _ = false

pub quiet_at : (b a : Bool) (route : Route) → is_quiet route ≡ true → fits_route b a route ≡ true → a ≡ b
quiet_at b a Pass q h = sym (same_bit b a h)
quiet_at b a (Found s n) q h = sym (same_bit b a h)
quiet_at b a ToChannel q h = absurd (true≢false (sym q))
quiet_at b a (Leave c) q h = absurd (true≢false (sym q))
quiet_at b a Enter q h = absurd (true≢false (sym q))
quiet_at b a Renew q h = absurd (true≢false (sym q))

pub quiet_stays : (route : Route) → is_quiet route ≡ true → is_leaving route ≡ false
quiet_stays Pass q = refl
quiet_stays (Found s n) q = refl
quiet_stays ToChannel q = refl
quiet_stays (Leave c) q = absurd (true≢false (sym q))
quiet_stays Enter q = refl
quiet_stays Renew q = absurd (true≢false (sym q))

pub quiet_level : (route : Route) → is_quiet route ≡ true → is_to_channel route ≡ false
quiet_level Pass q = refl
quiet_level (Found s n) q = refl
quiet_level ToChannel q = absurd (true≢false (sym q))
quiet_level (Leave c) q = refl
quiet_level Enter q = refl
quiet_level Renew q = refl
