use Rattle.std.proofs.Common.{◌≡◌, ◌++◌, drop}
use Rattle.explanations.specs.Table.{explanations_of}
use Rattle.explanations.proofs.table.push_explanations_in.Given as goal

abbrev pub invariant-loop-explanation : goal.invariant-loop-explanation
invariant-loop-explanation l =
    l.found.items ++ explanations_of l.fn.word (drop l.explanation-index l.fn.section)
    ≡ l.fn.found.items ++ explanations_of l.fn.word l.fn.section
