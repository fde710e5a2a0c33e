use Rattle.std.proofs.Common.{length}
use Rattle.descriptions.proofs.facility_faults.facility_value.Given as goal

abbrev pub decreases-loop-left : goal.decreases-loop-left
decreases-loop-left g l = length l.left
