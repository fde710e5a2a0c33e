-- A trace has no more calls than rows.
use Rattle.std.proofs.Common.{◌≡◌, ◌∙◌, sym, ap, refl, ℕ, ◌+◌, ◌≤◌, ◌<◌, ◌^◌, Bool, true, false, cond, List, [], ◌∷◌, map, length, length-append, arith}
use Rattle.std.specs.List.{filter}
use Rattle.line_model.specs.basics.Records.{Item}
use Rattle.line_model.specs.channels.Gaps.{GapChannel}
use Rattle.line_model.specs.channels.GapRestart.{GapInterfaceState}
use Rattle.line_model.specs.declared.event.What.{What}
use Rattle.line_model.specs.declared.event.What.TheVariants.{Open}
use Rattle.line_model.specs.declared.interface.Interface.{Interface}
use Rattle.line_model.specs.observer.Calls.{calls_of, is_opening}
use Rattle.line_model.specs.observer.Machine.{Observer, after}
use Rattle.line_model.specs.observer.MachineEvents.{RowEvent, row_events, walk_events}
use Rattle.line_model.specs.observer.Observer.{event_of, events, is_up, start, x25}
use Rattle.line_model.proofs.EventKinds.{is_opening as opens}
use Rattle.line_model.proofs.GapCalls.{moves_calls}
use Rattle.line_model.proofs.MovesCalls.{one_opening}
use Rattle.line_model.proofs.Pieces.{filter_append}
use Rattle.live_report.specs.Observing.{Represents}
use Rattle.live_report.specs.declared.observer.Observer.{Observer as Observing}
use Rattle.descriptions.specs.RowCalls.{AreFewCalls}
use Rattle.descriptions.proofs.OpenCalls.{opens_first, passes_first}

-- the events that open calls
abbrev openings : List (RowEvent Item What) → List (RowEvent Item What)
openings vs = filter (λ v. opens v.what) vs

kind_same : (v : RowEvent Item What) → is_opening (event_of v) ≡ opens v.what
kind_same v = at v.what
  where
    at : (w : What) → is_opening (event_of (record v { what = w })) ≡ opens w
    at (Open out called calling reverse_charging) = refl
    at w = refl

one_each : (vs : List (RowEvent Item What)) → length (calls_of (map event_of vs)) ≡ length (openings vs)
one_each [] = refl
one_each (v ∷ vs) = by (one_each vs) (is_opening (event_of v)) refl
  where
    counted : (b : Bool) → length (cond b (v ∷ openings vs) (openings vs)) ≡ cond b 1 0 + length (openings vs)
    counted true = omega arith
    counted false = omega arith

    by : length (calls_of (map event_of vs)) ≡ length (openings vs) → (b : Bool) → is_opening (event_of v) ≡ b → length (calls_of (map event_of (v ∷ vs))) ≡ length (openings (v ∷ vs))
    by later true h =
        let first = opens_first (event_of v) (map event_of vs) h in
        omega (arith, ap (λ cs. length cs) first.calls, later, counted (opens v.what), ap {B = ℕ} (λ b. cond b 1 0) (sym (kind_same v) ∙ h))
    by later false h =
        omega (arith, ap (λ cs. length cs) (passes_first (event_of v) (map event_of vs) h), later, counted (opens v.what), ap {B = ℕ} (λ b. cond b 1 0) (sym (kind_same v) ∙ h))

few_openings : (i : Interface) (o : Observer GapInterfaceState GapChannel) (rs : List Item) → length (openings (walk_events (x25 i) o rs)) ≤ length rs
few_openings i o [] = omega arith
few_openings i o (r ∷ rs) =
    let own = row_events (x25 i) o r in
    let later = walk_events (x25 i) (after (x25 i) o r) rs in
    omega (arith, one_opening (x25 i) (is_up i) (moves_calls i) o r, few_openings i (after (x25 i) o r) rs, ap (λ vs. length vs) (filter_append (λ v. opens v.what) own later), length-append (openings own) (openings later))

pub few_calls : (i : Interface) (rs : List Item) → length rs < 2 ^ 32 → AreFewCalls (events i rs)
few_calls i rs few = omega (arith, few, one_each (walk_events (x25 i) (start i) rs), few_openings i (start i) rs)

-- the rows that an observer has walked are few
pub few_rows : {A C : Type 0} {interface_of : C → Interface} {number_of : C → ℕ} {represents : C → GapChannel → Type 0} (i : Interface) (rs : List Item) (o : Observing A C) → Represents interface_of number_of represents i rs o → length rs < 2 ^ 32
few_rows i rs o h = omega (arith, h.cut.packets, h.bounds.rows, h.bounds.last)

pub few_walked : {A C : Type 0} {interface_of : C → Interface} {number_of : C → ℕ} {represents : C → GapChannel → Type 0} (i : Interface) (rs : List Item) (o : Observing A C) → Represents interface_of number_of represents i rs o → AreFewCalls (events i rs)
few_walked i rs o h = few_calls i rs (few_rows i rs o h)
