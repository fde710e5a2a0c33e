-- The findings and the calls of the pieces are those of the walk in another order, and those of the walk rise by their packets.
use Rattle.std.proofs.Common.{◌≡◌, ◌∷◌, ◌++◌, [], ℕ, zero, suc, ◌+◌, ◌<◌, Bool, List, map, get_or, sym, subst, arith}
use Rattle.std.specs.List.{filter, flat_map}
use Rattle.std.specs.List.Sorted.{IsPermutation, IsStrictlyIncreasing}
use Rattle.std.proofs.lemmas.List.Sorted.{IsPermutation-sym}
use Rattle.line_model.specs.declared.event.What.{What}
use Rattle.line_model.specs.basics.Records.{Item}
use Rattle.line_model.specs.channels.Gaps.{GapChannel}
use Rattle.line_model.specs.channels.GapRestart.{GapInterfaceState}
use Rattle.line_model.specs.observer.Machine.{Machine, Observer}
use Rattle.line_model.specs.observer.MachineEvents.{RowEvent, walk_events}
use Rattle.line_model.specs.pieces.Merge.{drawn, drawn_apart, OnePerRow}
use Rattle.line_model.specs.pieces.Plan.{plan_of}
use Rattle.line_model.specs.pieces.Pieces.{placed}
use Rattle.line_model.specs.pieces.Plans.{level_findings}
use Rattle.line_model.specs.observer.Report.{findings_of}
use Rattle.line_model.specs.observer.Calls.{calls_of}
use Rattle.line_model.specs.observer.Observer.{x25, start, event_by, events, is_up}
use Rattle.line_model.specs.Laws.{CallsLaw, CallsOrderLaw, FindingsOrderLaw}
use Rattle.line_model.proofs.OneFinding.{is_finding_event, one_finding}
use Rattle.line_model.proofs.Findings.{findings_apart, findings_are, findings_in, findings_of_line, make, packet_is, plan_lists}
use Rattle.line_model.proofs.Rearranged.{IsPermutation-from_rearranged}
use Rattle.line_model.proofs.Rising.{Rises, rises-from_RisesFrom, rises-from_index}
use Rattle.line_model.proofs.Merged.{drawn_is_rearranged, keys_are, rises-all}
use Rattle.line_model.proofs.Planned.{plan_law}
use Rattle.line_model.proofs.CallRecords.{opens, call_of, call_opened, calls_apart, calls_drawn, calls_in, calls_merged, walk_fit}
use Rattle.line_model.proofs.GapCalls.{moves_calls}
use Rattle.line_model.proofs.MovesCalls.{MovesCalls, one_opening}
use Rattle.line_model.proofs.WalkedRows.{IsWalk, interface_walk}

pub index-from_rises : (ns : List ℕ) → Rises ns → IsStrictlyIncreasing ns
index-from_rises [] h = λ k lt. absurd (omega arith)
index-from_rises (a ∷ []) h = λ k lt. absurd (omega arith)
index-from_rises (a ∷ b ∷ ns) h = at (index-from_rises (b ∷ ns) (rises-from_RisesFrom a (b ∷ ns) h))
  where
    at : IsStrictlyIncreasing (b ∷ ns) → IsStrictlyIncreasing (a ∷ b ∷ ns)
    at later zero lt = h.0
    at later (suc k) lt =
        let e : suc (k + 1) ≡ suc k + 1 = omega arith in
        subst (λ j. get_or (b ∷ ns) k 0 < get_or (a ∷ b ∷ ns) j 0) e (later k (omega arith))

-- what is drawn apart is what is drawn from the walk, which rises by its rows
drawn_in_order : {X L S Y : Type 0} → (m : Machine X L S What) (start : Observer L S) (rs : List X) → IsWalk m start rs → (number : X → ℕ) → IsStrictlyIncreasing (map number rs)
    → (kind : RowEvent X What → Bool) (make : RowEvent X What → List (RowEvent X What) → Y) (key : Y → ℕ) → OnePerRow m kind → ((v : RowEvent X What) (us : List (RowEvent X What)) → key (make v us) ≡ number v.row)
    → IsPermutation (drawn_apart m start rs (plan_of m start rs) kind make) (drawn kind make (walk_events m start rs)) × IsStrictlyIncreasing (map key (drawn kind make (walk_events m start rs)))
drawn_in_order m start rs is_walk number up kind make key one keyed =
    let vs = walk_events m start rs in
    let qs = plan_of m start rs in (
      IsPermutation-sym (drawn kind make vs) (drawn_apart m start rs qs kind make)
          (IsPermutation-from_rearranged (drawn kind make vs) (drawn_apart m start rs qs kind make)
          (drawn_is_rearranged m start rs qs kind make is_walk.channels is_walk.fresh is_walk.ready (plan_law m start rs is_walk.channels))),
      index-from_rises (map key (drawn kind make vs))
          (subst (λ l. Rises l) (sym (keys_are number make key keyed vs (filter kind vs)))
          (rises-all m start rs number kind one (rises-from_index (map number rs) up))),
    )

pub findings_ordered : {X L S : Type 0} → (number : X → ℕ) (m : Machine X L S What) → OnePerRow m is_finding_event → (start : Observer L S) (rs : List X) → IsWalk m start rs → IsStrictlyIncreasing (map number rs)
    → IsPermutation (findings_of_line number m start rs ++ flat_map (findings_in number m start rs) (plan_of m start rs)) (findings_of (map (event_by number) (walk_events m start rs)))
    × IsStrictlyIncreasing (map (λ f. f.packet) (findings_of (map (event_by number) (walk_events m start rs))))
findings_ordered number m one start rs is_walk up =
    let qs = plan_of m start rs in
    let are = findings_are number (walk_events m start rs) in
    let w = drawn_in_order m start rs is_walk number up is_finding_event (make number) (λ f. f.packet) one (λ v us. packet_is (number v.row) v.what) in (
      subst (λ l. IsPermutation l (findings_of (map (event_by number) (walk_events m start rs)))) (sym (findings_apart number m start rs qs))
          (subst (λ l. IsPermutation (drawn_apart m start rs qs is_finding_event (make number)) l) (sym are) w.0),
      subst (λ l. IsStrictlyIncreasing (map (λ f. f.packet) l)) (sym are) w.1,
    )

pub calls_ordered : {X L S : Type 0} → (number : X → ℕ) (m : Machine X L S What) (is_up : ℕ → S → Bool) → MovesCalls m is_up → (start : Observer L S) (rs : List X) → IsWalk m start rs → IsStrictlyIncreasing (map number rs)
    → IsPermutation (flat_map (calls_in number m start rs) (plan_of m start rs)) (calls_of (map (event_by number) (walk_events m start rs)))
    × IsStrictlyIncreasing (map (λ c. c.opened) (calls_of (map (event_by number) (walk_events m start rs))))
calls_ordered {X} {L} {S} number m is_up moves start rs is_walk up =
    let vs = walk_events m start rs in
    let qs = plan_of m start rs in
    let call = call_of X number in
    let are = calls_drawn X number vs (walk_fit X L S number m is_up moves start rs is_walk up) in
    let apart = calls_apart X L S number m is_up moves start rs is_walk up qs (plan_law m start rs is_walk.channels) in
    let w = drawn_in_order m start rs is_walk number up opens call (λ c. c.opened) (one_opening m is_up moves) (λ v us. call_opened X number v v.what us) in (
      subst (λ l. IsPermutation l (calls_of (map (event_by number) vs))) (sym apart) (subst (λ l. IsPermutation (drawn_apart m start rs qs opens call) l) (sym are) w.0),
      subst (λ l. IsStrictlyIncreasing (map (λ c. c.opened) l)) (sym are) w.1,
    )

-- ---- the laws of an interface

pub findings_order : FindingsOrderLaw
findings_order i rs said up =
    let listed = plan_lists findings_of i (placed (x25 i) (start i) rs) 0 (plan_of (x25 i) (start i) rs) in
    let w = findings_ordered (λ r. r.number) (x25 i) (one_finding i) (start i) rs (interface_walk i rs said) up in
    record {
      same_findings = subst (λ l. IsPermutation (level_findings i rs ++ l) (findings_of (events i rs))) (sym listed) w.0;
      in_order = w.1;
    }

pub calls_law : CallsLaw
calls_law i rs said up merged same rising =
    let listed = plan_lists calls_of i (placed (x25 i) (start i) rs) 0 (plan_of (x25 i) (start i) rs) in
    calls_merged Item GapInterfaceState GapChannel (λ r. r.number) (x25 i) (is_up i) (moves_calls i) (start i) rs (interface_walk i rs said) up merged
    (subst (λ l. IsPermutation l merged) listed same) rising

pub calls_order : CallsOrderLaw
calls_order i rs said up =
    let listed = plan_lists calls_of i (placed (x25 i) (start i) rs) 0 (plan_of (x25 i) (start i) rs) in
    let w = calls_ordered (λ r. r.number) (x25 i) (is_up i) (moves_calls i) (start i) rs (interface_walk i rs said) up in
    record { same_calls = subst (λ l. IsPermutation l (calls_of (events i rs))) (sym listed) w.0; in_order = w.1 }
