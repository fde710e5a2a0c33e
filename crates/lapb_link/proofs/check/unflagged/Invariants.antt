-- The rest has the same octets after its flags.
use Rattle.std.proofs.Common.{◌≡◌, length}
use Rattle.lapb_link.specs.Checks.{unflagged}
use Rattle.lapb_link.proofs.check.unflagged.Given as goal

abbrev pub invariant-loop-rest : goal.invariant-loop-rest
invariant-loop-rest l = unflagged l.rest ≡ unflagged l.fn.octets

abbrev pub decreases-loop-rest : goal.decreases-loop-rest
decreases-loop-rest l = length l.rest
