use Rattle.std.proofs.Common.{◌-◌, ◌≤◌, length}
use Rattle.trace_text.proofs.digits.convert_digits.Given as goal

abbrev pub invariant-loop-octets : goal.invariant-loop-octets
invariant-loop-octets g l = length l.octets.items ≤ 4

abbrev pub decreases-loop-octets : goal.decreases-loop-octets
decreases-loop-octets g l = 4 - length l.octets.items
