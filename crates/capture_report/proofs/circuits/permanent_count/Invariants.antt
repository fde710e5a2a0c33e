-- Those so far and those that are left are all of them.
use Rattle.std.proofs.Common.{◌≡◌, ◌+◌, ◌≤◌, drop}
use Rattle.capture_report.specs.Circuits.{permanent_count}
use Rattle.capture_report.proofs.circuits.permanent_count.Given as goal

abbrev pub invariant-loop-circuit : goal.invariant-loop-circuit
invariant-loop-circuit l = record {
  all : l.count + permanent_count (drop l.circuit-index l.circuits) ≡ permanent_count l.circuits;
  within : l.count ≤ l.circuit-index;
}
