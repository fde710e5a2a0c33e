use Rattle.std.proofs.Common.{◌-◌, length, subst, sym, take, ℕ}
use Rattle.std.specs.List.{AllPass}
use Rattle.hex.specs.Hex.{is_hex_digit}
use Rattle.trace_text.proofs.DigitCounts.{counts-last}
use Rattle.trace_text.proofs.digits.count_last.Goals as goal

pub returns-clause-digits : goal.returns-clause-digits
returns-clause-digits c =
    let text = c.args.text.now in
    subst (λ (n : ℕ). AllPass is_hex_digit (take n text)) (sym c.min.ensures) (counts-last text c.padded.result c.leading_digits.result (64 - length text) c.padded.ensures c.leading_digits.ensures.digits)
