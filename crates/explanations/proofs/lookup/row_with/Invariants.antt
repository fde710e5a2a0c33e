use Rattle.std.proofs.Common.{◌≡◌, drop, map}
use Rattle.explanations.specs.Lookup.{with_word}
use Rattle.explanations.specs.Table.{key}
use Rattle.explanations.proofs.lookup.row_with.Given as goal

abbrev pub invariant-loop-row : goal.invariant-loop-row
invariant-loop-row l = with_word l.fn.word (map key (drop l.row-index l.fn.section)) ≡ with_word l.fn.word (map key l.fn.section)
