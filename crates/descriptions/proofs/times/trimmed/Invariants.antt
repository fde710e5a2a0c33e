use Rattle.std.proofs.Common.{◌≡◌, length}
use Rattle.descriptions.specs.CallTable.{trimmed}
use Rattle.descriptions.proofs.times.trimmed.Given as goal

abbrev pub invariant-loop-rest : goal.invariant-loop-rest
invariant-loop-rest l = record { first : trimmed l.rest ≡ trimmed l.digits }

abbrev pub decreases-loop-rest : goal.decreases-loop-rest
decreases-loop-rest l = length l.rest
