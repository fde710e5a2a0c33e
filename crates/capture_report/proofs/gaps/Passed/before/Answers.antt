-- None begins before it for certain.
use Rattle.capture_report.proofs.gaps.Passed.before.Goals as goal

pub returns-then-frame-last : goal.returns-then-frame-last
returns-then-frame-last c = λ ranges s. c.none.ensures ranges c.args.frame
