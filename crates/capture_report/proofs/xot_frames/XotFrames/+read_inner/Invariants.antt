-- Each further datagram leaves room for fewer carriers.
use Rattle.capture_report.proofs.xot_frames.XotFrames.+read_inner.Given as goal

abbrev pub decreases-read_inner : goal.decreases-read_inner
decreases-read_inner g l = l.inner.left
