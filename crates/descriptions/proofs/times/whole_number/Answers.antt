use Rattle.std.proofs.Common.{rules, arith}
use Rattle.descriptions.proofs.NumberLemmas.{whole_step}
use Rattle.descriptions.proofs.times.whole_number.Goals as goal

pub overflow_add-number : goal.overflow_add-number
overflow_add-number c = let s = whole_step c.args.word.now c.loop-digit.digit-index c.loop-digit.number (search rules) (search rules) c.loop-digit.invariant in omega (arith, s.1)

pub overflow_mul-number : goal.overflow_mul-number
overflow_mul-number c = let s = whole_step c.args.word.now c.loop-digit.digit-index c.loop-digit.number (search rules) (search rules) c.loop-digit.invariant in omega (arith, s.1)

pub loop-digit-preserved : goal.loop-digit-preserved
loop-digit-preserved c = (whole_step c.args.word.now c.loop-digit.digit-index c.loop-digit.number (search rules) (search rules) c.loop-digit.invariant).0
