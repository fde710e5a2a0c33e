-- The text of what is left goes on behind what was made.
use Rattle.capture_report.specs.Traces.{IsFilling}
use Rattle.capture_report.proofs.trace.fill.Given as goal

abbrev pub invariant-loop : goal.invariant-loop
invariant-loop g l = IsFilling (g.F.Frames.left l.fn.frames) (g.F.Frames.left l.frames) l.fn.reader l.reader
