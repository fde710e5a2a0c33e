-- Those so far and those that are left are all of them.
use Rattle.std.proofs.Common.{◌≡◌, ◌++◌, drop}
use Rattle.capture_report.specs.Circuits.{wanted_of}
use Rattle.capture_report.proofs.circuits.wanted_of.Given as goal

abbrev pub invariant-loop-circuit : goal.invariant-loop-circuit
invariant-loop-circuit l = l.wanted.items ++ wanted_of (drop l.circuit-index l.circuits) ≡ wanted_of l.circuits
