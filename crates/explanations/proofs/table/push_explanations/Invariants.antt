use Rattle.std.proofs.Common.{◌≡◌, ◌++◌, drop}
use Rattle.explanations.specs.Table.{explanations_of, rows}
use Rattle.explanations.proofs.table.push_explanations.Given as goal

abbrev pub invariant-loop-section : goal.invariant-loop-section
invariant-loop-section l =
    l.found.items ++ explanations_of l.fn.word (rows (drop l.section-index l.fn.sections))
    ≡ l.fn.found.items ++ explanations_of l.fn.word (rows l.fn.sections)
