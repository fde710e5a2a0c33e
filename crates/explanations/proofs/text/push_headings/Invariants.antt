use Rattle.std.proofs.Common.{◌≡◌, ◌++◌, drop, string_bytes}
use Rattle.explanations.specs.Texts.{headings_text}
use Rattle.explanations.proofs.text.push_headings.Given as goal

abbrev pub invariant-loop-explanation : goal.invariant-loop-explanation
invariant-loop-explanation l =
    string_bytes l.text ++ headings_text (drop l.explanation-index l.fn.section)
    ≡ string_bytes l.fn.text ++ headings_text l.fn.section
