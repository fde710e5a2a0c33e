use Rattle.std.proofs.Common.{◌∙◌, ◌-◌, ap, arith, get_or, length, List, ℕ}
use Rattle.trace_text.proofs.DigitCounts.{get_or-zeros, has-values}
use Rattle.trace_text.proofs.digits.last_values.Goals as goal

pub returns : goal.returns
returns c =
    let text = c.args.text.now in
    let block = c.padded.ensures in
    has-values text c.padded.result c.digit_values.result c.digit_values.ensures (omega (arith, c.padded.auto))
    (λ i h. ap (λ (xs : List ℕ). get_or xs i 0) block ∙ get_or-zeros text (32 - length text) i)
