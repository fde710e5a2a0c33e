-- The marks have what was read so far, and the survey what was seen.
use Rattle.capture_report.specs.Readings.{IsReadUpTo, IsSeenUpTo}
use Rattle.capture_report.proofs.plan.Plan.read.Given as goal

abbrev pub invariant-loop : goal.invariant-loop
invariant-loop g l = record {
  read : IsReadUpTo (g.F.Frames.left l.fn.frames) (g.F.Frames.left l.frames) l.fn.line l.reached l.marks;
  seen : IsSeenUpTo (g.F.Frames.left l.fn.frames) (g.F.Frames.left l.frames) l.fn.line l.reached l.fn.survey l.survey;
}
