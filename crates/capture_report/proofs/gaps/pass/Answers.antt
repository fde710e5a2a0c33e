-- None of those that are left begins before the frame.
use Rattle.capture_report.proofs.GapLemmas.{all_passed}
use Rattle.capture_report.proofs.gaps.pass.Goals as goal

pub returns-clause-all : goal.returns-clause-all
returns-clause-all c = all_passed c.args.ranges.now c.args.frame c.loop-range.passed c.requires.order c.loop-range.invariant c.in_default.ensures
