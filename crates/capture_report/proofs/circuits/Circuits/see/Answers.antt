-- The row is counted, its circuit may begin, and it is seen on the slot of that.
use Rattle.std.proofs.Common.{◌∙◌, max}
use Rattle.capture_report.specs.CircuitRows.{circuit_row_view}
use Rattle.capture_report.specs.CircuitSights.{CircuitSight, sight_in}
use Rattle.capture_report.specs.Circuits.{next_number}
use Rattle.capture_report.proofs.CircuitLemmas.{seen_row}
use Rattle.capture_report.proofs.circuits.Circuits.see.Goals as goal

pub returns : goal.returns
returns c =
    let s : CircuitSight = sight_in c.args.self.now in
    seen_row c.see_on.result (circuit_row_view c.args.row.now) s (sight_in c.pass.new.self) (sight_in c.circuit_of.new.self) (sight_in c.see_on.new.self) c.in_ok-slot.slot
    (c.pass.ensures ∙ (λ i. record { rule = s.rule; counted = c.in_ok-add.ensures i; sighted = s.sighted; number = max (c.least_number.ensures i) (next_number s.number) }))
    c.in_ok-slot.ensures.slot c.in_ok-slot.ensures.after c.see_on.ensures
