-- All that were passed begin before the frame.
use Rattle.std.proofs.Common.{◌-◌, length}
use Rattle.capture_report.specs.Gaps.{ArePassed}
use Rattle.capture_report.proofs.gaps.pass.Given as goal

abbrev pub invariant-loop-range : goal.invariant-loop-range
invariant-loop-range l = ArePassed l.ranges l.frame l.passed

abbrev pub decreases-loop-range : goal.decreases-loop-range
decreases-loop-range l = length l.ranges - l.passed.count
