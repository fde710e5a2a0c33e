use Rattle.std.proofs.Common.{◌≡◌, ◌++◌, drop, string_bytes}
use Rattle.explanations.specs.Table.{rows}
use Rattle.explanations.specs.Texts.{headings_text}
use Rattle.explanations.proofs.text.headings_text.Given as goal

abbrev pub invariant-loop-section : goal.invariant-loop-section
invariant-loop-section l =
    string_bytes l.text ++ headings_text (rows (drop l.section-index l.fn.sections))
    ≡ headings_text (rows l.fn.sections)
