-- No port before comes first.
use Rattle.std.proofs.Common.{◌≤◌, ◌<◌, ℕ}
use Rattle.capture_report.specs.OtherPorts.{rank}
use Rattle.capture_report.proofs.other_ports.OtherPorts.first_of.Given as goal

abbrev pub invariant-loop-port : goal.invariant-loop-port
invariant-loop-port l = record {
  before : (port : ℕ) → port < l.port → rank l.fn.self port ≤ l.greatest;
  first : l.greatest ≤ rank l.fn.self l.first;
}
