use Rattle.std.proofs.Common.{◌≡◌, ◌++◌, drop, string_bytes}
use Rattle.explanations.specs.Texts.{explanations_text}
use Rattle.explanations.proofs.text.explanations_text.Given as goal

abbrev pub invariant-loop-explanation : goal.invariant-loop-explanation
invariant-loop-explanation l =
    string_bytes l.text ++ explanations_text (drop l.explanation-index l.fn.found) ≡ explanations_text l.fn.found
