-- A line was read up to what the capture gave last, and it has no packet yet.
use Rattle.std.specs.Prelude.{◌≡◌, false}
use Rattle.capture_report.specs.Headers.{has_packets}
use Rattle.capture_report.specs.Piped.{IsStarting, reading_of}
use Rattle.capture_report.proofs.piped.LineStart.read_on.Given as goal

abbrev pub invariant-loop : goal.invariant-loop
invariant-loop g l = record {
  read : IsStarting (g.F.Frames.left l.fn.frames) (g.F.Frames.latest l.fn.frames) (g.F.Frames.left l.frames) (g.F.Frames.latest l.frames) (reading_of l.fn.self) (reading_of l.self);
  empty : has_packets l.self.survey.seen.beginning ≡ false;
}
