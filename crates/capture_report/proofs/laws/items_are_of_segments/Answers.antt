use Rattle.capture_report.proofs.ItemLemmas.{items_law, no_circuit_law}
use Rattle.capture_report.proofs.laws.items_are_of_segments.Goals as goal

pub returns-clause-items : goal.returns-clause-items
returns-clause-items c = items_law

pub returns-clause-none : goal.returns-clause-none
returns-clause-none c = no_circuit_law
