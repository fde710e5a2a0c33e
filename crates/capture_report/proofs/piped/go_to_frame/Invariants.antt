-- What was passed over has no frame.
use Rattle.capture_report.specs.Piped.{IsPassedOver}
use Rattle.capture_report.proofs.piped.go_to_frame.Given as goal

abbrev pub invariant-loop : goal.invariant-loop
invariant-loop g l = IsPassedOver (g.F.Frames.left l.fn.frames) (g.F.Frames.left l.frames)
