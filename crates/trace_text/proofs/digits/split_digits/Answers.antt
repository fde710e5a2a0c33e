use Rattle.std.proofs.Common.{◌-◌, arith, drop, length, rules, take, List, ℕ}
use Rattle.line_model.proofs.DeviceLemmas.{rest_of}
use Rattle.trace_text.proofs.DigitCounts.{begins-octets, line-end}
use Rattle.trace_text.proofs.digits.split_digits.Goals as goal

pub returns : goal.returns
returns c =
    let text = c.args.text.now in
    let count = c.count_digits-count.result in
    let back : List ℕ = take (length text - count) (drop count text) in (
      begins-octets text (take (length back - 1) (drop 1 back)) count c.count_digits-count.ensures.few c.count_digits-count.ensures.digits (omega (arith, c.if-count-lt-FRONT_DIGITS.false)) (omega (arith, c.if-count.false)) (omega (arith, c.if-count-ne0.false))
          (line-end text back count (rest_of text count) c.in-10.len_at_least (search rules)),
      c.first_values-values.ensures,
    )
