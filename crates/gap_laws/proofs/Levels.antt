-- Rows that step the interface level: in the whole walk, and where the interface of a recording with gaps is adrift.
use Rattle.std.proofs.Common.{◌≡◌, ◌⊎◌, inl, inr, ◌+◌, ℕ, Bool, true, false, cond, refl, sym, ◌∙◌, ap, subst, List, [], ◌∷◌, ◌++◌, Option, Some, None}
use Rattle.std.specs.Prelude.{not, ◌&&◌, ◌||◌}
use Rattle.std.specs.List.{flat_map}
use Rattle.std.proofs.lemmas.Bool.{false≢true, and_parts, and_from}
use Rattle.line_model.specs.declared.event.How.{How}
use Rattle.line_model.specs.declared.event.What.{What}
use Rattle.line_model.specs.declared.gap.EpochStart.TheVariants.{Restarted}
use Rattle.line_model.specs.declared.interface.Interface.{Interface}
use Rattle.line_model.specs.declared.packet.Class.{Class}
use Rattle.line_model.specs.declared.packet.Class.TheVariants.{Restart, RestartConfirm}
use Rattle.line_model.specs.declared.packet.Packet.{Packet}
use Rattle.line_model.specs.declared.packet.Packet as packet
use Rattle.line_model.specs.declared.route.Route as route
use Rattle.line_model.specs.declared.state.Side.{Side}
use Rattle.line_model.specs.declared.state.Side.TheVariants.{T, N}
use Rattle.line_model.specs.declared.state.RState.{RState}
use Rattle.line_model.specs.declared.state.RState as restart
use Rattle.line_model.specs.declared.state.StateName.{StateName}
use Rattle.line_model.specs.declared.state.StateName.TheVariants.{R1, R2, R3}
use Rattle.line_model.specs.declared.table.Action.{Action}
use Rattle.line_model.specs.declared.table.Action.TheVariants.{Error, Discard, Pass}
use Rattle.line_model.specs.basics.Records.{Item}
use Rattle.line_model.specs.packets.Classes.{packet_class}
use Rattle.line_model.specs.packets.Says.{gap_of}
use Rattle.line_model.specs.channels.Channels.{other, is_open}
use Rattle.line_model.specs.channels.Gaps.{GapChannel, fresh_at}
use Rattle.line_model.specs.channels.GapRestart.{GapInterfaceState, GapRouting, adrift_restart, is_gap_of_all, is_of_all, is_ready, level_in_r1_with, level_stays, level_takes, routing, routing_by}
use Rattle.line_model.specs.channels.RestartMachine.{InterfaceState, Routing, inside_step, is_outside, outside_step, restart_error, restart_fault, restart_move, restart_moving, restart_name, restart_step}
use Rattle.line_model.specs.channels.Tables.{action}
use Rattle.line_model.specs.observer.Machine.{Observer, after, after_by, after_routed, channel_unless, level_moved, level_stepped, next_epoch, own_channel, renewed, routed, stays_ready, steps_all}
use Rattle.line_model.specs.observer.MachineEvents.{RowEvent, closed_events, ended_events, row_events, row_events_by, row_events_routed, stamp, walk_events}
use Rattle.line_model.specs.observer.Observer.{channel_in_r1, epoch_end, epoch_end_if, handed, is_renewal, route_found, x25}
use Rattle.line_model.specs.observer.Report.{is_finding}
use Rattle.line_model.proofs.Every.{every_class}
use Rattle.gap_laws.proofs.Circuits.{silent}
use Rattle.gap_laws.proofs.Observers.{IsOn, Silent, on_channel, on_class, silent_events, silent_stamp, stamp_silent}

-- the interface level of a walk without a finding
abbrev pub whole_level : RState → GapInterfaceState
whole_level s = record { level = record { state = s; owed = false; joining = false }; adrift = false; owed_before = false }

-- that of a recording with gaps, where the interface may have restarted
abbrev pub adrift_level : GapInterfaceState
adrift_level = level_in_r1_with true false

abbrev pub at_level : (epoch : ℕ) → GapInterfaceState → (ℕ → GapChannel) → Observer GapInterfaceState GapChannel
at_level e l f = record { epoch = e; level = l; states = f }

-- ---- the events of a row that steps the interface level

silent_parts : (us vs : List (RowEvent Item What)) → silent_events (us ++ vs) ≡ true → (silent_events us ≡ true) × (silent_events vs ≡ true)
silent_parts [] vs h = (refl, h)
silent_parts (u ∷ us) vs h =
    let both = and_parts (not (is_finding u.what)) (silent_events (us ++ vs)) h in
    let rest = silent_parts us vs both.1 in
    (and_from (not (is_finding u.what)) (silent_events us) both.0 rest.0, rest.1)

silent_join : (us vs : List (RowEvent Item What)) → silent_events us ≡ true → silent_events vs ≡ true → silent_events (us ++ vs) ≡ true
silent_join [] vs h k = k
silent_join (u ∷ us) vs h k =
    let both = and_parts (not (is_finding u.what)) (silent_events us) h in
    and_from (not (is_finding u.what)) (silent_events (us ++ vs)) both.0 (silent_join us vs both.1 k)

closes_silent : (e : ℕ) (f : ℕ → GapChannel) (r : Item) (ks : List ℕ) → silent_events (flat_map (λ k. stamp e (Some k) r (epoch_end (f k) r)) ks) ≡ true
closes_silent e f r [] = refl
closes_silent e f r (k ∷ ks) = silent_join (stamp e (Some k) r (epoch_end (f k) r)) (flat_map (λ k. stamp e (Some k) r (epoch_end (f k) r)) ks) (at (is_open (f k).channel) _) (closes_silent e f r ks)
  where
    at : (b : Bool) (h : How) → silent_events (stamp e (Some k) r (epoch_end_if b h)) ≡ true
    at true h = refl
    at false h = refl

closed_silent : (i : Interface) (o : Observer GapInterfaceState GapChannel) (r : Item) (b c : Bool) → silent_events (closed_events (x25 i) o r b c) ≡ true
closed_silent i o r true false = closes_silent o.epoch o.states r (x25 i).channels
closed_silent i o r true true = refl
closed_silent i o r false c = refl

ended_silent : (i : Interface) (o : Observer GapInterfaceState GapChannel) (r : Item) (b : Bool) → silent_events (ended_events (x25 i) o r b) ≡ true
ended_silent i o r true = closed_silent i o r true false
ended_silent i o r false = closed_silent i o r _ _

-- ---- the observer after it

abbrev renewed_to : Interface → Observer GapInterfaceState GapChannel → GapInterfaceState → Bool → Observer GapInterfaceState GapChannel
renewed_to i o l true = next_epoch (x25 i) o l
renewed_to i o l false = level_moved (x25 i) o l (is_ready o.level) (is_ready l)

abbrev pub stepped : Interface → Observer GapInterfaceState GapChannel → GapRouting → Observer GapInterfaceState GapChannel
stepped i o t = renewed_to i o t.after (is_renewal t.route && (is_ready o.level && is_ready t.after))

-- a row that steps the interface level alone
pub record LevelRow (i : Interface) (o : Observer GapInterfaceState GapChannel) (r : Item) : Type 0 where
  pub after : after (x25 i) o r ≡ stepped i o (routing o.level r)
  pub events : row_events (x25 i) o r ≡ stamp o.epoch None r (route_found r (routing o.level r).route) ++ ended_events (x25 i) o r (renewed (x25 i) o.level r)

no_gap_of_all : (i : Interface) (l : GapInterfaceState) (r : Item) → gap_of r.packet ≡ None → steps_all (x25 i) l r ≡ false
no_gap_of_all i l r none = at (is_gap_of_all r) (ap is_of_all none)
  where
    at : (a : Bool) → a ≡ false → (a && stays_ready (x25 i) l r) ≡ false
    at true e = absurd (false≢true (sym e))
    at false e = refl

pub level_row : (i : Interface) (o : Observer GapInterfaceState GapChannel) (r : Item) → gap_of r.packet ≡ None → routed (x25 i) o.level r ≡ None → LevelRow i o r
level_row i o r none alone = record {
  after = ap (λ a. after_by (x25 i) o r a (routed (x25 i) o.level r)) (no_gap_of_all i o.level r none) ∙ ap (λ c. after_routed (x25 i) o r c) alone ∙ same (renewed (x25 i) o.level r);
  events = ap (λ a. row_events_by (x25 i) o r a (routed (x25 i) o.level r)) (no_gap_of_all i o.level r none) ∙ ap (λ c. row_events_routed (x25 i) o r c) alone;
}
  where
    same : (b : Bool) → level_stepped (x25 i) o r b ≡ renewed_to i o (routing o.level r).after b
    same true = refl
    same false = refl

pub level_first : (i : Interface) (o : Observer GapInterfaceState GapChannel) (r : Item) (rs : List Item) → LevelRow i o r → Silent i o (r ∷ rs)
    → (silent (route_found r (routing o.level r).route) ≡ true) × Silent i (stepped i o (routing o.level r)) rs
level_first i o r rs l h =
    let parts = silent_parts (row_events (x25 i) o r) (walk_events (x25 i) (after (x25 i) o r) rs) h in
    let found = silent_stamp o.epoch None r (route_found r (routing o.level r).route) (ended_events (x25 i) o r (renewed (x25 i) o.level r)) (subst (λ vs. silent_events vs ≡ true) l.events parts.0) in
    (found.0, subst (λ o. Silent i o rs) l.after parts.1)

pub level_back : (i : Interface) (o : Observer GapInterfaceState GapChannel) (r : Item) (rs : List Item) → LevelRow i o r → silent (route_found r (routing o.level r).route) ≡ true → Silent i (stepped i o (routing o.level r)) rs
    → Silent i o (r ∷ rs)
level_back i o r rs l f h =
    silent_join (row_events (x25 i) o r) (walk_events (x25 i) (after (x25 i) o r) rs)
    (subst (λ vs. silent_events vs ≡ true) (sym l.events) (stamp_silent o.epoch None r (route_found r (routing o.level r).route) (ended_events (x25 i) o r (renewed (x25 i) o.level r)) f (ended_silent i o r (renewed (x25 i) o.level r))))
    (subst (λ o. Silent i o rs) (sym l.after) h)

-- ---- packets on no channel

abbrev pub is_level : Packet → Bool
is_level (packet.TheVariants.Channel c k) = false
is_level packet.TheVariants.GapOfAll = false
is_level p = true

-- what such a packet does in the whole walk: nothing, a side restarts, or r1 is entered
pub data LevelMove : Type 0 where
  Stays Enters : LevelMove
  Leaves : Side → LevelMove

abbrev pub restarting_state : Side → RState
restarting_state T = restart.TheVariants.R2
restarting_state N = restart.TheVariants.R3

abbrev pub moved_epoch : ℕ → LevelMove → ℕ
moved_epoch e Enters = e + 1
moved_epoch e m = e

abbrev pub moved_state : RState → LevelMove → RState
moved_state s Stays = s
moved_state s (Leaves x) = restarting_state x
moved_state s Enters = restart.TheVariants.R1

abbrev pub moved_states : Interface → (epoch : ℕ) → (ℕ → GapChannel) → LevelMove → ℕ → GapChannel
moved_states i e f Enters = fresh_at i Restarted (e + 1)
moved_states i e f m = f

abbrev pub moved : Interface → (epoch : ℕ) → RState → (ℕ → GapChannel) → LevelMove → Observer GapInterfaceState GapChannel
moved i e s f m = at_level (moved_epoch e m) (whole_level (moved_state s m)) (moved_states i e f m)

-- and where the interface is adrift: nothing, it is adrift in the next epoch, or it has restarted
pub data AdriftMove (m : LevelMove) (t : GapRouting) : Type 0 where
  KeepsAdrift : m ≡ Stays → t ≡ level_stays adrift_level → AdriftMove m t
  Redrifts : t ≡ record { route = route.TheVariants.Renew; after = adrift_level } → AdriftMove m t
  Restores : m ≡ Enters → t ≡ record { route = route.TheVariants.Renew; after = whole_level restart.TheVariants.R1 } → AdriftMove m t

pub record LevelStep (i : Interface) (s : RState) (t u : GapRouting) : Type 0 where
  pub move : LevelMove
  pub whole : (e : ℕ) (f : ℕ → GapChannel) → stepped i (at_level e (whole_level s) f) t ≡ moved i e s f move
  pub adrift : AdriftMove move u

pub stays_so : (i : Interface) (s : RState) (e : ℕ) (f : ℕ → GapChannel) → stepped i (at_level e (whole_level s) f) (level_stays (whole_level s)) ≡ at_level e (whole_level s) f
stays_so i restart.TheVariants.R1 e f = refl
stays_so i restart.TheVariants.R2 e f = refl
stays_so i restart.TheVariants.R3 e f = refl

passes : (i : Interface) (s : RState) → LevelStep i s (level_stays (whole_level s)) (level_stays adrift_level)
passes i s = record { move = Stays; whole = stays_so i s; adrift = KeepsAdrift refl refl }

abbrev level_at : RState → InterfaceState
level_at s = (whole_level s).level

-- a move by a packet that may have a fault
moves : (i : Interface) (r : Item) (s : RState) (t : StateName) (m : LevelMove) (u : Option ℕ → GapRouting) → ((e : ℕ) (f : ℕ → GapChannel) → stepped i (at_level e (whole_level s) f) (level_takes (whole_level s) (restart_move s t)) ≡ moved i e s f m)
    → AdriftMove m (u None) → (f : Option ℕ) → silent (route_found r (level_takes (whole_level s) (restart_moving (level_at s) t f)).route) ≡ true
    → LevelStep i s (level_takes (whole_level s) (restart_moving (level_at s) t f)) (u f)
moves i r s t m u whole adrift None q = record { move = m; whole = whole; adrift = adrift }
moves i r s t m u whole adrift (Some n) q = absurd (false≢true q)

-- a restart of a side that restarts already
restarts_again : (i : Interface) (s : RState) (x : Side) (f : Option ℕ) → LevelStep i s (level_stays (whole_level s)) (adrift_restart x Restart f adrift_level)
restarts_again i s x None = record { move = Stays; whole = stays_so i s; adrift = Redrifts refl }
restarts_again i s x (Some n) = passes i s

abbrev pub level_item : (number : ℕ) → Side → Packet → (length : ℕ) → (octets : List ℕ) → Item
level_item nr x p len os = record { number = nr; side = x; packet = p; length = len; octets = os }

pub level_step_is : (i : Interface) (s : RState) (nr : ℕ) (x : Side) (p : Packet) (len : ℕ) (os : List ℕ) → is_level p ≡ true → silent (route_found (level_item nr x p len os) (routing (whole_level s) (level_item nr x p len os)).route) ≡ true
    → LevelStep i s (routing (whole_level s) (level_item nr x p len os)) (routing adrift_level (level_item nr x p len os))
level_step_is i s nr T packet.TheVariants.Short len os e q = absurd (false≢true q)
level_step_is i s nr N packet.TheVariants.Short len os e q = absurd (false≢true q)
level_step_is i s nr T packet.TheVariants.WrongFormat len os e q = absurd (false≢true q)
level_step_is i s nr N packet.TheVariants.WrongFormat len os e q = absurd (false≢true q)
level_step_is i s nr T packet.TheVariants.Unassigned len os e q = absurd (false≢true q)
level_step_is i s nr N packet.TheVariants.Unassigned len os e q = absurd (false≢true q)
level_step_is i s nr T packet.TheVariants.Diagnostic len os e q = absurd (false≢true q)
level_step_is i s nr N packet.TheVariants.Diagnostic len os e q = passes i s
level_step_is i s nr T packet.TheVariants.Registration len os e q = passes i s
level_step_is i s nr N packet.TheVariants.Registration len os e q = passes i s
level_step_is i restart.TheVariants.R1 nr T packet.TheVariants.Restart len os e q =
    moves i (level_item nr T packet.TheVariants.Restart len os) restart.TheVariants.R1 R2 (Leaves T) (λ f. adrift_restart T Restart f adrift_level) (λ e f. refl) (Redrifts refl) (restart_fault Restart len) q
level_step_is i restart.TheVariants.R2 nr T packet.TheVariants.Restart len os e q = restarts_again i restart.TheVariants.R2 T (restart_fault Restart len)
level_step_is i restart.TheVariants.R3 nr T packet.TheVariants.Restart len os e q =
    moves i (level_item nr T packet.TheVariants.Restart len os) restart.TheVariants.R3 R1 Enters (λ f. adrift_restart T Restart f adrift_level) (λ e f. refl) (Redrifts refl) (restart_fault Restart len) q
level_step_is i restart.TheVariants.R1 nr N packet.TheVariants.Restart len os e q =
    moves i (level_item nr N packet.TheVariants.Restart len os) restart.TheVariants.R1 R3 (Leaves N) (λ f. adrift_restart N Restart f adrift_level) (λ e f. refl) (Redrifts refl) (restart_fault Restart len) q
level_step_is i restart.TheVariants.R2 nr N packet.TheVariants.Restart len os e q =
    moves i (level_item nr N packet.TheVariants.Restart len os) restart.TheVariants.R2 R1 Enters (λ f. adrift_restart N Restart f adrift_level) (λ e f. refl) (Redrifts refl) (restart_fault Restart len) q
level_step_is i restart.TheVariants.R3 nr N packet.TheVariants.Restart len os e q = restarts_again i restart.TheVariants.R3 N (restart_fault Restart len)
level_step_is i restart.TheVariants.R1 nr T packet.TheVariants.RestartConfirm len os e q = absurd (false≢true q)
level_step_is i restart.TheVariants.R2 nr T packet.TheVariants.RestartConfirm len os e q = absurd (false≢true q)
level_step_is i restart.TheVariants.R3 nr T packet.TheVariants.RestartConfirm len os e q =
    moves i (level_item nr T packet.TheVariants.RestartConfirm len os) restart.TheVariants.R3 R1 Enters (λ f. adrift_restart T RestartConfirm f adrift_level) (λ e f. refl) (Restores refl refl) (restart_fault RestartConfirm len) q
level_step_is i restart.TheVariants.R1 nr N packet.TheVariants.RestartConfirm len os e q = absurd (false≢true q)
level_step_is i restart.TheVariants.R2 nr N packet.TheVariants.RestartConfirm len os e q =
    moves i (level_item nr N packet.TheVariants.RestartConfirm len os) restart.TheVariants.R2 R1 Enters (λ f. adrift_restart N RestartConfirm f adrift_level) (λ e f. refl) (Restores refl refl) (restart_fault RestartConfirm len) q
level_step_is i restart.TheVariants.R3 nr N packet.TheVariants.RestartConfirm len os e q = absurd (false≢true q)
level_step_is i s nr x (packet.TheVariants.Channel c k) len os e q = absurd (false≢true e)
level_step_is i s nr x packet.TheVariants.GapOfAll len os e q = absurd (false≢true e)

-- none of them goes to a channel
unrouted : (nr : ℕ) (x : Side) (p : Packet) (len : ℕ) (os : List ℕ) → is_level p ≡ true → channel_in_r1 (level_item nr x p len os) ≡ None
unrouted nr T packet.TheVariants.Short len os e = refl
unrouted nr N packet.TheVariants.Short len os e = refl
unrouted nr T packet.TheVariants.WrongFormat len os e = refl
unrouted nr N packet.TheVariants.WrongFormat len os e = refl
unrouted nr T packet.TheVariants.Unassigned len os e = refl
unrouted nr N packet.TheVariants.Unassigned len os e = refl
unrouted nr T packet.TheVariants.Diagnostic len os e = refl
unrouted nr N packet.TheVariants.Diagnostic len os e = refl
unrouted nr T packet.TheVariants.Registration len os e = refl
unrouted nr N packet.TheVariants.Registration len os e = refl
unrouted nr T packet.TheVariants.Restart len os e = at (restart_fault Restart len)
  where
    at : (f : Option ℕ) → handed (restart_moving (level_at restart.TheVariants.R1) R2 f).route 0 ≡ None
    at None = refl
    at (Some n) = refl
unrouted nr N packet.TheVariants.Restart len os e = at (restart_fault Restart len)
  where
    at : (f : Option ℕ) → handed (restart_moving (level_at restart.TheVariants.R1) R3 f).route 0 ≡ None
    at None = refl
    at (Some n) = refl
unrouted nr T packet.TheVariants.RestartConfirm len os e = refl
unrouted nr N packet.TheVariants.RestartConfirm len os e = refl
unrouted nr x (packet.TheVariants.Channel c k) len os e = absurd (false≢true e)
unrouted nr x packet.TheVariants.GapOfAll len os e = absurd (false≢true e)

level_no_gap : (p : Packet) → is_level p ≡ true → gap_of p ≡ None
level_no_gap (packet.TheVariants.Channel c k) e = absurd (false≢true e)
level_no_gap packet.TheVariants.GapOfAll e = absurd (false≢true e)
level_no_gap p e = refl

pub level_packet_row : (i : Interface) (o : Observer GapInterfaceState GapChannel) (nr : ℕ) (x : Side) (p : Packet) (len : ℕ) (os : List ℕ) → is_level p ≡ true → LevelRow i o (level_item nr x p len os)
level_packet_row i o nr x p len os e = level_row i o (level_item nr x p len os) (level_no_gap p e) (at (is_ready o.level))
  where
    own : (a : Bool) → a ≡ false → channel_unless (x25 i) (level_item nr x p len os) a ≡ None
    own true h = absurd (false≢true (sym h))
    own false h = unrouted nr x p len os e

    at : (b : Bool) → cond b (own_channel (x25 i) (level_item nr x p len os)) None ≡ None
    at true = own (is_gap_of_all (level_item nr x p len os)) (ap is_of_all (level_no_gap p e))
    at false = refl

-- ---- packets on a channel, while a side restarts

abbrev is_pass : Action → Bool
is_pass Pass = true
is_pass Discard = true
is_pass a = false

abbrev is_error : Action → Bool
is_error (Error n) = true
is_error a = false

-- those of the side that restarts are errors, and those of the other side pass
abbrev waits_out : Class → Bool
waits_out k = not (on_channel k) || (not (is_outside k) && ((is_error (action T R2 false k) && is_pass (action N R2 false k)) && (is_error (action N R3 false k) && is_pass (action T R3 false k))))

record WaitsOut (k : Class) : Type 0 where
  inside : is_outside k ≡ false
  refused : (y : Side) → is_error (action y (restart_name (restarting_state y)) false k) ≡ true
  passed : (y : Side) → is_pass (action (other y) (restart_name (restarting_state y)) false k) ≡ true

waits_out_is : (k : Class) → on_channel k ≡ true → WaitsOut k
waits_out_is k h = at (on_channel k) (is_outside k) refl h (every_class waits_out refl k)
  where
    at : (c u : Bool) → is_outside k ≡ u → c ≡ true → (not c || (not u && ((is_error (action T R2 false k) && is_pass (action N R2 false k)) && (is_error (action N R3 false k) && is_pass (action T R3 false k))))) ≡ true → WaitsOut k
    at false u d h t = absurd (false≢true h)
    at true true d h t = absurd (false≢true t)
    at true false d h t =
        let sides = and_parts (is_error (action T R2 false k) && is_pass (action N R2 false k)) (is_error (action N R3 false k) && is_pass (action T R3 false k)) t in
        let in_r2 = and_parts (is_error (action T R2 false k)) (is_pass (action N R2 false k)) sides.0 in
        let in_r3 = and_parts (is_error (action N R3 false k)) (is_pass (action T R3 false k)) sides.1 in
        record {
          inside = d;
          refused = λ y. elim y as (λ y. is_error (action y (restart_name (restarting_state y)) false k) ≡ true) [ T ↦ in_r2.0 | N ↦ in_r3.0 ];
          passed = λ y. elim y as (λ y. is_pass (action (other y) (restart_name (restarting_state y)) false k) ≡ true) [ T ↦ in_r2.1 | N ↦ in_r3.1 ];
        }

pub record WaitedOut (y : Side) (r : Item) : Type 0 where
  pub side : r.side ≡ other y
  pub passes : routing (whole_level (restarting_state y)) r ≡ level_stays (whole_level (restarting_state y))

side_is : (x y : Side) → (x ≡ y) ⊎ (x ≡ other y)
side_is T T = inl refl
side_is N N = inl refl
side_is T N = inr refl
side_is N T = inr refl

pub waited_out : (y : Side) (k : ℕ) (r : Item) → IsOn k r → silent (route_found r (routing (whole_level (restarting_state y)) r).route) ≡ true → WaitedOut y r
waited_out y k r on q = by (side_is r.side y)
  where
    w : WaitsOut (packet_class r.packet)
    w = waits_out_is (packet_class r.packet) (on_class k r on)

    step : Action → GapRouting
    step a = level_takes (whole_level (restarting_state y)) (restart_step (level_at (restarting_state y)) r.side (packet_class r.packet) r.length a)

    entry : routing (whole_level (restarting_state y)) r ≡ step (action r.side (restart_name (restarting_state y)) false (packet_class r.packet))
    entry =
        ap (λ g. routing_by g (whole_level (restarting_state y)) r.side (packet_class r.packet) r.length) on.no_gap
        ∙ ap (λ u. level_takes (whole_level (restarting_state y)) (elim u as (λ _. Routing) [
          | true ↦ outside_step (level_at (restarting_state y)) (action r.side (restart_name (restarting_state y)) false (packet_class r.packet))
          | false ↦ inside_step false (level_at (restarting_state y)) r.side (packet_class r.packet) r.length
        ])) w.inside

    loud : {A : Type 0} (a : Action) → is_error a ≡ true → silent (route_found r (step a).route) ≡ true → A
    loud {A = A} (Error n) e h = at r.side y h
      where
        at : (x y : Side) → silent (route_found r (level_takes (whole_level (restarting_state y)) (restart_error (level_at (restarting_state y)) x n)).route) ≡ true → A
        at T T h = absurd (false≢true h)
        at T N h = absurd (false≢true h)
        at N y h = absurd (false≢true h)
    loud a e h = absurd (false≢true e)

    still : (a : Action) → is_pass a ≡ true → step a ≡ level_stays (whole_level (restarting_state y))
    still Pass e = refl
    still Discard e = refl
    still a e = absurd (false≢true e)

    by : (r.side ≡ y) ⊎ (r.side ≡ other y) → WaitedOut y r
    by (inl e) =
        loud (action r.side (restart_name (restarting_state y)) false (packet_class r.packet)) (ap (λ x. is_error (action x (restart_name (restarting_state y)) false (packet_class r.packet))) e ∙ w.refused y)
        (ap (λ (t : GapRouting). silent (route_found r t.route)) (sym entry) ∙ q)
    by (inr e) = record {
      side = e;
      passes = entry ∙ still (action r.side (restart_name (restarting_state y)) false (packet_class r.packet)) (ap (λ x. is_pass (action x (restart_name (restarting_state y)) false (packet_class r.packet))) e ∙ w.passed y);
    }

pub unready : (y : Side) → is_ready (whole_level (restarting_state y)) ≡ false
unready T = refl
unready N = refl

-- it steps the interface level, not its channel
pub waiting_row : (i : Interface) (e : ℕ) (y : Side) (f : ℕ → GapChannel) (k : ℕ) (r : Item) → IsOn k r → LevelRow i (at_level e (whole_level (restarting_state y)) f) r
waiting_row i e y f k r on = level_row i (at_level e (whole_level (restarting_state y)) f) r on.no_gap (ap (λ b. cond b (own_channel (x25 i) r) None) (unready y))
