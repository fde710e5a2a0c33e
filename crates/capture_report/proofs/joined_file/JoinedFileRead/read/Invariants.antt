-- The parts that were passed over had nothing left.
use Rattle.std.proofs.Common.{◌-◌, length}
use Rattle.std.specs.Io.KnownBytes.{Keeps}
use Rattle.capture_report.specs.JoinedFiles.{joined_left}
use Rattle.capture_report.proofs.joined_file.JoinedFileRead.read.Given as goal

abbrev pub invariant-loop-part : goal.invariant-loop-part
invariant-loop-part g l = Keeps (joined_left g.F.Read.remaining l.fn.self) (joined_left g.F.Read.remaining l.self)

abbrev pub decreases-loop-part : goal.decreases-loop-part
decreases-loop-part g l = length l.self.parts.items - l.self.ended
