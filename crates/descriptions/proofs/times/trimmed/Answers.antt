use Rattle.std.proofs.Common.{arith, length, ◌-◌}
use Rattle.std.proofs.lemmas.List.{length-take-le}
use Rattle.descriptions.proofs.times.trimmed.Goals as goal

pub loop-rest-smaller : goal.loop-rest-smaller
loop-rest-smaller c =
    let rest = c.loop-rest.rest.now in
    omega (arith, c.in-48.len_at_least, length-take-le (length rest - 1) rest (omega arith))
