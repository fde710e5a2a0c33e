-- The octets that are left have the same answer.
use Rattle.std.proofs.Common.{◌≡◌, length}
use Rattle.xot_circuits.specs.Joining.{are_plausible}
use Rattle.xot_circuits.proofs.joining.are_plausible.Given as goal

abbrev pub invariant-loop-left : goal.invariant-loop-left
invariant-loop-left l = are_plausible 0 l.left ≡ are_plausible 0 l.octets

abbrev pub decreases-loop-left : goal.decreases-loop-left
decreases-loop-left l = length l.left
