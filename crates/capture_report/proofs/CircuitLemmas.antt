-- The steps of a recording, one after the other.
use Rattle.std.proofs.Common.{◌≡◌, refl, subst, ℕ, true, ◌&&◌, max, List, [], ◌∷◌, ◌++◌, Option, Some, Result}
use Rattle.std.specs.Prelude.{OnOk}
use Rattle.std.proofs.lemmas.List.Folds.{list_all-append}
use Rattle.xot_circuits.specs.Items.{Item}
use Rattle.capture_report.specs.CircuitRows.{CircuitRow, circuit_row_of}
use Rattle.capture_report.specs.CircuitSights.{CircuitSight, Sighted, content_number, item_ended, item_joined, last_number, row_seen, seen_on, slot_for, step_number, step_seen, step_sighted, steps_seen, steps_sighted, with_circuit}
use Rattle.capture_report.specs.CircuitTexts.{are_typed, is_typed_step}
use Rattle.capture_report.specs.Circuits.{Counted, Of, Step, content_counted, next_number, step_counted, steps_counted}
use Rattle.capture_report.specs.declared.circuit_row.CircuitRule.{CircuitRule}

counted_append : (rule : CircuitRule) (xs ys : List Step) (c : Counted) → steps_counted rule (xs ++ ys) c ≡ steps_counted rule ys (steps_counted rule xs c)
counted_append rule [] ys c = refl
counted_append rule (x ∷ xs) ys c = counted_append rule xs ys (step_counted rule x c)

sighted_append : (rule : CircuitRule) (xs ys : List Step) (s : Sighted) → steps_sighted rule (xs ++ ys) s ≡ steps_sighted rule ys (steps_sighted rule xs s)
sighted_append rule [] ys s = refl
sighted_append rule (x ∷ xs) ys s = sighted_append rule xs ys (step_sighted rule x s)

number_append : (rule : CircuitRule) (xs ys : List Step) (n : ℕ) → last_number rule (xs ++ ys) n ≡ last_number rule ys (last_number rule xs n)
number_append rule [] ys n = refl
number_append rule (x ∷ xs) ys n = number_append rule xs ys (step_number rule x n)

pub steps_append : (xs ys : List Step) (s : CircuitSight) → steps_seen (xs ++ ys) s ≡ steps_seen ys (steps_seen xs s)
steps_append xs ys s = λ i. record {
  rule = s.rule;
  counted = counted_append s.rule xs ys s.counted i;
  sighted = sighted_append s.rule xs ys s.sighted i;
  number = number_append s.rule xs ys s.number i;
}

pub typed_append : (rule : CircuitRule) (xs ys : List Step) → are_typed rule (xs ++ ys) ≡ (are_typed rule xs && are_typed rule ys)
typed_append rule xs ys = list_all-append (is_typed_step rule) xs ys

-- a row: it is counted, its circuit may begin, and it is seen on the slot of that
pub seen_row : {E : Type 0} (result : Result (Unit {0}) E) (r : CircuitRow) (s a b after : CircuitSight) (slot : ℕ)
    → a ≡ record s { counted = content_counted r.content r.connection s.counted; number = max (content_number r.content r.place.frame) (next_number s.number) }
    → slot ≡ slot_for r.connection a.sighted
    → b ≡ record a { sighted = with_circuit r.connection true a.sighted }
    → OnOk result (after ≡ record b { sighted = seen_on slot r b.sighted })
    → OnOk result (after ≡ row_seen (Some r) s)
seen_row result r s a b after slot counted is begun k =
    subst (λ (x : CircuitSight). OnOk result (after ≡ record x { sighted = seen_on (slot_for r.connection x.sighted) r (with_circuit r.connection true x.sighted) })) counted
    (subst (λ (x : CircuitSight). OnOk result (after ≡ record x { sighted = seen_on (slot_for r.connection a.sighted) r x.sighted })) begun
    (subst (λ n. OnOk result (after ≡ record b { sighted = seen_on n r b.sighted })) is k))

-- an item: its circuit may begin, it may be a row, and its circuit may end
pub seen_item : {E : Type 0} (result : Result (Unit {0}) E) (i : Item) (r : Option CircuitRow) (s a b after : CircuitSight)
    → a ≡ item_joined i s → r ≡ circuit_row_of a.rule i → b ≡ row_seen r a → OnOk result (after ≡ item_ended i b) → OnOk result (after ≡ step_seen (Of i) s)
seen_item result i r s a b after joins is sees k =
    subst (λ (x : CircuitSight). OnOk result (after ≡ item_ended i (row_seen (circuit_row_of x.rule i) x))) joins
    (subst (λ o. OnOk result (after ≡ item_ended i (row_seen o a))) is
    (subst (λ (x : CircuitSight). OnOk result (after ≡ item_ended i x)) sees k))
