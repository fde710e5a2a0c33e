-- What was seen so far.
use Rattle.capture_report.specs.CircuitReadings.{IsPassedUpTo}
use Rattle.capture_report.specs.CircuitSights.{first_circuit_sight}
use Rattle.capture_report.specs.Circuits.{rule_of}
use Rattle.capture_report.specs.Segments.{new_reader}
use Rattle.capture_report.proofs.circuit_reading.CircuitPass.read.Given as goal

abbrev pub invariant-loop : goal.invariant-loop
invariant-loop g l = IsPassedUpTo (g.F.Frames.left l.fn.frames) (g.F.Frames.left l.frames) (new_reader l.options) (first_circuit_sight (rule_of l.options)) l.pass
