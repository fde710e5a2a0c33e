use Rattle.std.proofs.Common.{◌∙◌, ap, arith, get_or, get_or-take, length, length-take-le, List, ℕ}
use Rattle.trace_text.proofs.DigitCounts.{has-values}
use Rattle.trace_text.proofs.digits.first_values.Goals as goal

pub returns-in-Some : goal.returns-in-Some
returns-in-Some c =
    let text = c.args.text.now in
    let cut = c.in-Some.ensures.cases in
    has-values text c.in-Some.bytes.now c.digit_values.result c.digit_values.ensures (ap (λ (xs : List ℕ). length xs) cut.1 ∙ length-take-le 32 text (omega (arith, cut.0)))
    (λ i h. ap (λ (xs : List ℕ). get_or xs i 0) cut.1 ∙ get_or-take 32 text i 0 h)
