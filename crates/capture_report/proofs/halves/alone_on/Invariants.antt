-- Those so far and those that are left are all of them.
use Rattle.std.proofs.Common.{◌≡◌, ◌++◌, drop}
use Rattle.capture_report.specs.Halves.{alone_on}
use Rattle.capture_report.proofs.halves.alone_on.Given as goal

abbrev pub invariant-loop-circuit : goal.invariant-loop-circuit
invariant-loop-circuit l = l.numbers.items ++ alone_on l.side (drop l.circuit-index l.circuits) ≡ alone_on l.side l.circuits
