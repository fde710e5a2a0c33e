use Rattle.std.proofs.Common.{◌-◌, List, ℕ, get_or, length, take, drop, refl, arith, rules}
use Rattle.line_model.specs.declared.state.Side.TheVariants.{T, N}
use Rattle.line_model.proofs.DeviceLemmas.{rest_of}
use Rattle.trace_text.proofs.NumberLemmas.{digit_wraps, digits_more}
use Rattle.trace_text.proofs.RowFront.{row-front}
use Rattle.trace_text.proofs.row_front.split_front.Goals as goal

pub overflow_mul-number : goal.overflow_mul-number
overflow_mul-number c =
    let i = c.loop-count.invariant in
    let wraps = digit_wraps (get_or c.args.text.now c.loop-count.count 0) (omega (arith, c.type_inv.text c.loop-count.count)) c.if-digit-gt9.false in
    let more = digits_more c.args.text.now c.loop-count.count c.loop-count.number c.loop-count-test.true (omega (arith, c.loop-count-test.true, c.if-text-le-NUMBER_DIGITS.false)) wraps.0 i.digits i.value in
    omega (arith, more.2)

pub overflow_add-number : goal.overflow_add-number
overflow_add-number c =
    let i = c.loop-count.invariant in
    let wraps = digit_wraps (get_or c.args.text.now c.loop-count.count 0) (omega (arith, c.type_inv.text c.loop-count.count)) c.if-digit-gt9.false in
    let more = digits_more c.args.text.now c.loop-count.count c.loop-count.number c.loop-count-test.true (omega (arith, c.loop-count-test.true, c.if-text-le-NUMBER_DIGITS.false)) wraps.0 i.digits i.value in
    omega (arith, more.2, wraps.1)

pub loop-count-preserved : goal.loop-count-preserved
loop-count-preserved c =
    let i = c.loop-count.invariant in
    let wraps = digit_wraps (get_or c.args.text.now c.loop-count.count 0) (omega (arith, c.type_inv.text c.loop-count.count)) c.if-digit-gt9.false in
    let more = digits_more c.args.text.now c.loop-count.count c.loop-count.number c.loop-count-test.true (omega (arith, c.loop-count-test.true, c.if-text-le-NUMBER_DIGITS.false)) wraps.0 i.digits i.value in
    record { few = omega (arith, c.loop-count-test.true); there = omega (arith, c.loop-count-test.true, c.if-text-le-NUMBER_DIGITS.false); digits = more.0; value = omega (arith, more.1, wraps.1) }

pub returns-in-32 : goal.returns-in-32
returns-in-32 c =
    let i = c.loop-count.invariant in
    let text = c.args.text.now in
    let count = c.loop-count.count in
    let back : List ℕ = take (length text - count) (drop count text) in
    row-front c.args.last text back count c.loop-count.number 84 T c.if-count-eq0.false i.few i.there i.digits c.if-text-eq48.false i.value c.if-number-last.false (rest_of text count)
    c.in-32.len_at_least (search rules) (search rules) (search rules) refl refl

pub returns-in-32-2 : goal.returns-in-32-2
returns-in-32-2 c =
    let i = c.loop-count.invariant in
    let text = c.args.text.now in
    let count = c.loop-count.count in
    let back : List ℕ = take (length text - count) (drop count text) in
    row-front c.args.last text back count c.loop-count.number 78 N c.if-count-eq0.false i.few i.there i.digits c.if-text-eq48.false i.value c.if-number-last.false (rest_of text count)
    c.in-32-2.len_at_least (search rules) (search rules) (search rules) refl refl
