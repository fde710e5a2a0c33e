-- Two observers side by side: that of the whole walk, and that of a recording with gaps, as long as the interface stays in r1.
use Rattle.std.proofs.Common.{◌≡◌, ℕ, Bool, true, false, refl, sym, ◌∙◌, ap, subst, List, [], ◌∷◌, ◌++◌, Option, Some, None}
use Rattle.std.specs.Prelude.{not, ◌&&◌, ◌||◌, map}
use Rattle.std.proofs.lemmas.Bool.{false≢true, and_parts, and_from}
use Rattle.line_model.specs.declared.event.What.{What}
use Rattle.line_model.specs.declared.event.What as what
use Rattle.line_model.specs.declared.interface.Interface.{Interface}
use Rattle.line_model.specs.declared.packet.Class.{Class}
use Rattle.line_model.specs.declared.packet.Class.TheVariants.{Short, WrongFormat, Unassigned, Restart, RestartConfirm, Diagnostic, Registration}
use Rattle.line_model.specs.declared.packet.Packet.{Packet}
use Rattle.line_model.specs.declared.packet.Packet as packet
use Rattle.line_model.specs.declared.packet.PacketKind.{PacketKind}
use Rattle.line_model.specs.declared.packet.PacketKind as kind
use Rattle.line_model.specs.declared.route.Route as route
use Rattle.line_model.specs.declared.state.Side.{Side}
use Rattle.line_model.specs.declared.state.Side.TheVariants.{T, N}
use Rattle.line_model.specs.declared.state.StateName.TheVariants.{R1}
use Rattle.line_model.specs.declared.table.Action.{Action}
use Rattle.line_model.specs.declared.table.Action.TheVariants.{ToChannel}
use Rattle.line_model.specs.basics.Records.{Item}
use Rattle.line_model.specs.packets.Classes.{kind_class, packet_class}
use Rattle.line_model.specs.packets.Says.{gap_of, packet_channel}
use Rattle.line_model.specs.channels.Gaps.{GapChannel}
use Rattle.line_model.specs.channels.GapRestart.{GapInterfaceState, GapRouting, adrift_restart, gap_level_step, is_gap_of_all, is_of_all, is_of_restart, level_in_r1_with, level_takes, routing, routing_by}
use Rattle.line_model.specs.channels.GapStep.{gap_channel_step}
use Rattle.line_model.specs.channels.RestartMachine.{Routing, inside_step, is_outside, level_in_r1, level_step, outside_step, restart_fault, restart_step}
use Rattle.line_model.specs.channels.Tables.{action}
use Rattle.line_model.specs.observer.Machine.{Observer, after, after_by, after_routed, channel_unless, routed, stays_ready, steps_all, with_state}
use Rattle.line_model.specs.observer.MachineEvents.{RowEvent, row_events, row_events_by, row_events_routed, stamp, walk_events}
use Rattle.line_model.specs.observer.Observer.{channel_in_r1, event_of, handed, step_by, x25}
use Rattle.line_model.specs.observer.Report.{findings_of, is_finding}
use Rattle.line_model.proofs.Every.{every_class}
use Rattle.gap_laws.proofs.Circuits.{silent}

-- ---- walks without a finding

-- no event of a walk is a finding
abbrev pub silent_events : List (RowEvent Item What) → Bool
silent_events [] = true
silent_events (v ∷ vs) = not (is_finding v.what) && silent_events vs

pub silent_stamp : (e : ℕ) (c : Option ℕ) (r : Item) (ws : List What) (vs : List (RowEvent Item What)) → silent_events (stamp e c r ws ++ vs) ≡ true → (silent ws ≡ true) × (silent_events vs ≡ true)
silent_stamp e c r [] vs h = (refl, h)
silent_stamp e c r (w ∷ ws) vs h =
    let both = and_parts (not (is_finding w)) (silent_events (stamp e c r ws ++ vs)) h in
    let rest = silent_stamp e c r ws vs both.1 in
    (and_from (not (is_finding w)) (silent ws) both.0 rest.0, rest.1)

pub stamp_silent : (e : ℕ) (c : Option ℕ) (r : Item) (ws : List What) (vs : List (RowEvent Item What)) → silent ws ≡ true → silent_events vs ≡ true → silent_events (stamp e c r ws ++ vs) ≡ true
stamp_silent e c r [] vs h k = k
stamp_silent e c r (w ∷ ws) vs h k =
    let both = and_parts (not (is_finding w)) (silent ws) h in
    and_from (not (is_finding w)) (silent_events (stamp e c r ws ++ vs)) both.0 (stamp_silent e c r ws vs both.1 k)

pub none_found : (vs : List (RowEvent Item What)) → silent_events vs ≡ true → findings_of (map event_of vs) ≡ []
none_found [] h = refl
none_found (v ∷ vs) h = at v.epoch v.channel v.row v.what (none_found vs) h
  where
    at : (e : ℕ) (c : Option ℕ) (r : Item) (w : What) → (silent_events vs ≡ true → findings_of (map event_of vs) ≡ []) → (not (is_finding w) && silent_events vs) ≡ true
        → findings_of (map event_of (record { epoch = e; channel = c; row = r; what = w } ∷ vs)) ≡ []
    at e c r (what.TheVariants.Found x s n) rest h = absurd (false≢true h)
    at e c r w rest h = rest h

pub all_silent : (vs : List (RowEvent Item What)) → findings_of (map event_of vs) ≡ [] → silent_events vs ≡ true
all_silent [] h = refl
all_silent (v ∷ vs) h = at v.epoch v.channel v.row v.what (all_silent vs) h
  where
    at : (e : ℕ) (c : Option ℕ) (r : Item) (w : What) → (findings_of (map event_of vs) ≡ [] → silent_events vs ≡ true)
        → findings_of (map event_of (record { epoch = e; channel = c; row = r; what = w } ∷ vs)) ≡ [] → (not (is_finding w) && silent_events vs) ≡ true
    at e c r (what.TheVariants.Found x s n) rest h = cc
    at e c r w rest h = rest h

-- ---- observers in r1

abbrev pub observer : (epoch : ℕ) → (adrift : Bool) → (ℕ → GapChannel) → Observer GapInterfaceState GapChannel
observer e b f = record { epoch = e; level = level_in_r1_with b false; states = f }

abbrev pub Silent : Interface → Observer GapInterfaceState GapChannel → List Item → Type 0
Silent i o rs = silent_events (walk_events (x25 i) o rs) ≡ true

-- the packets that are judged on their channels
abbrev pub on_channel : Class → Bool
on_channel Short = false
on_channel WrongFormat = false
on_channel Unassigned = false
on_channel Restart = false
on_channel RestartConfirm = false
on_channel Diagnostic = false
on_channel Registration = false
on_channel k = true

abbrev is_to_channel : Action → Bool
is_to_channel ToChannel = true
is_to_channel a = false

to_channel : (a : Action) → is_to_channel a ≡ true → a ≡ ToChannel
to_channel ToChannel h = refl
to_channel a h = cc

abbrev is_routed : Class → Bool
is_routed k = not (on_channel k) || (not (is_of_restart k) && (not (is_outside k) && (is_to_channel (action T R1 false k) && is_to_channel (action N R1 false k))))

kind_on_channel : (k : PacketKind) → on_channel (kind_class k) ≡ true
kind_on_channel kind.TheVariants.TwoOctets = refl
kind_on_channel kind.TheVariants.RestartHere = refl
kind_on_channel kind.TheVariants.Call = refl
kind_on_channel kind.TheVariants.Accepted = refl
kind_on_channel kind.TheVariants.Clear = refl
kind_on_channel kind.TheVariants.ClearConfirm = refl
kind_on_channel kind.TheVariants.Interrupt = refl
kind_on_channel kind.TheVariants.InterruptConfirm = refl
kind_on_channel kind.TheVariants.Reset = refl
kind_on_channel kind.TheVariants.ResetConfirm = refl
kind_on_channel (kind.TheVariants.Data h) = refl
kind_on_channel (kind.TheVariants.Rr n) = refl
kind_on_channel (kind.TheVariants.Rnr n) = refl
kind_on_channel kind.TheVariants.Rej = refl
kind_on_channel kind.TheVariants.Undefined = refl
kind_on_channel kind.TheVariants.Gap = refl

record Routed (k : Class) : Type 0 where
  not_restart : is_of_restart k ≡ false
  inside : is_outside k ≡ false
  passed : (x : Side) → action x R1 false k ≡ ToChannel

routed_is : (k : Class) → on_channel k ≡ true → Routed k
routed_is k h = at (on_channel k) (is_of_restart k) refl (is_outside k) refl h (every_class is_routed refl k)
  where
    at : (c u : Bool) → is_of_restart k ≡ u → (v : Bool) → is_outside k ≡ v → c ≡ true → (not c || (not u && (not v && (is_to_channel (action T R1 false k) && is_to_channel (action N R1 false k))))) ≡ true → Routed k
    at false u d v e h t = absurd (false≢true h)
    at true true d v e h t = absurd (false≢true t)
    at true false d true e h t = absurd (false≢true t)
    at true false d false e h t =
        let both = and_parts (is_to_channel (action T R1 false k)) (is_to_channel (action N R1 false k)) t in
        record { not_restart = d; inside = e; passed = λ x. elim x as (λ x. action x R1 false k ≡ ToChannel) [ T ↦ to_channel (action T R1 false k) both.0 | N ↦ to_channel (action N R1 false k) both.1 ] }

-- a packet of such a class goes to its channel, and the interface stays as it is
class_routes : (b : Bool) (x : Side) (k : Class) (len : ℕ) → on_channel k ≡ true → gap_level_step (level_in_r1_with b false) x k len ≡ record { route = route.TheVariants.ToChannel; after = level_in_r1_with b false }
class_routes b x k len h = at b
  where
    w : Routed k
    w = routed_is k h

    inside : level_step (level_in_r1 false) x k len ≡ record { route = route.TheVariants.ToChannel; after = level_in_r1 false }
    inside =
        ap (λ u. elim u as (λ _. Routing) [ true ↦ outside_step (level_in_r1 false) (action x R1 false k) | false ↦ inside_step false (level_in_r1 false) x k len ]) w.inside
        ∙ ap (λ a. restart_step (level_in_r1 false) x k len a) (w.passed x)

    at : (b : Bool) → gap_level_step (level_in_r1_with b false) x k len ≡ record { route = route.TheVariants.ToChannel; after = level_in_r1_with b false }
    at true =
        ap (λ u. elim u as (λ _. GapRouting) [ true ↦ adrift_restart x k (restart_fault k len) (level_in_r1_with true false) | false ↦ level_takes (level_in_r1_with true false) (level_step (level_in_r1 false) x k len) ]) w.not_restart
        ∙ ap (λ r. level_takes (level_in_r1_with true false) r) inside
    at false = ap (λ r. level_takes (level_in_r1_with false false) r) inside

-- a packet on a channel
pub record IsOn (k : ℕ) (r : Item) : Type 0 where
  pub form : PacketKind
  pub is : r.packet ≡ packet.TheVariants.Channel k form
  pub no_gap : gap_of r.packet ≡ None

-- it has a class that is judged on channels
pub on_class : (k : ℕ) (r : Item) → IsOn k r → on_channel (packet_class r.packet) ≡ true
on_class k r h = subst (λ p. on_channel (packet_class p) ≡ true) (sym h.is) (kind_on_channel h.form)

on_routes : (b : Bool) (k : ℕ) (r : Item) → IsOn k r → routing (level_in_r1_with b false) r ≡ record { route = route.TheVariants.ToChannel; after = level_in_r1_with b false }
on_routes b k r h =
    ap (λ g. routing_by g (level_in_r1_with b false) r.side (packet_class r.packet) r.length) h.no_gap
    ∙ class_routes b r.side (packet_class r.packet) r.length (on_class k r h)

-- the row steps its channel alone
pub record StepsOne (i : Interface) (e : ℕ) (b : Bool) (f : ℕ → GapChannel) (k : ℕ) (r : Item) : Type 0 where
  pub after : after (x25 i) (observer e b f) r ≡ observer e b (with_state f k (gap_channel_step i k (f k) r).after)
  pub events : row_events (x25 i) (observer e b f) r ≡ stamp e (Some k) r (gap_channel_step i k (f k) r).reported

pub steps_one : (i : Interface) (e : ℕ) (b : Bool) (f : ℕ → GapChannel) (k : ℕ) (r : Item) → IsOn k r → StepsOne i e b f k r
steps_one i e b f k r h = record {
  after = ap (λ a. after_by (x25 i) o r a (routed (x25 i) o.level r)) not_all ∙ ap (λ c. after_routed (x25 i) o r c) one ∙ ap (λ g. observer e b (with_state f k (step_by g i k (f k) r).after)) h.no_gap;
  events = ap (λ a. row_events_by (x25 i) o r a (routed (x25 i) o.level r)) not_all ∙ ap (λ c. row_events_routed (x25 i) o r c) one ∙ ap (λ g. stamp e (Some k) r (step_by g i k (f k) r).reported) h.no_gap;
}
  where
    o : Observer GapInterfaceState GapChannel
    o = observer e b f

    no_all : is_gap_of_all r ≡ false
    no_all = ap is_of_all h.no_gap

    not_all : steps_all (x25 i) (level_in_r1_with b false) r ≡ false
    not_all = at (is_gap_of_all r) no_all
      where
        at : (a : Bool) → a ≡ false → (a && stays_ready (x25 i) (level_in_r1_with b false) r) ≡ false
        at true e = absurd (false≢true (sym e))
        at false e = refl

    one : routed (x25 i) (level_in_r1_with b false) r ≡ Some k
    one = at (is_gap_of_all r) no_all ∙ ap (λ (t : GapRouting). handed t.route (packet_channel r.packet)) (on_routes false k r h) ∙ ap (λ p. Some (packet_channel p)) h.is
      where
        at : (a : Bool) → a ≡ false → channel_unless (x25 i) r a ≡ channel_in_r1 r
        at true e = absurd (false≢true (sym e))
        at false e = refl
