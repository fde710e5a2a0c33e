-- What was seen, and then the rest, is what is seen of all.
use Rattle.std.proofs.Common.{◌≡◌, drop, map}
use Rattle.xot_circuits.specs.Items.{Item}
use Rattle.capture_report.specs.CircuitSights.{sight_in, steps_seen}
use Rattle.capture_report.specs.CircuitTexts.{are_typed}
use Rattle.capture_report.specs.Circuits.{Of}
use Rattle.capture_report.proofs.circuits.Circuits.see_all.Given as goal

abbrev pub invariant-loop-index : goal.invariant-loop-index
invariant-loop-index l = record {
  seen : steps_seen (map (λ (i : Item). Of i) (drop l.index l.batch)) (sight_in l.self) ≡ steps_seen (map (λ (i : Item). Of i) l.batch) (sight_in l.fn.self);
  typed : are_typed l.fn.self.rule (map (λ (i : Item). Of i) (drop l.index l.batch)) ≡ are_typed l.fn.self.rule (map (λ (i : Item). Of i) l.batch);
  rule : l.self.rule ≡ l.fn.self.rule;
}
