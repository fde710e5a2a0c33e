-- Those so far and those that are left are all of them.
use Rattle.std.proofs.Common.{◌≡◌, ◌++◌, drop}
use Rattle.std.specs.List.{filter_map}
use Rattle.capture_report.specs.Circuits.{circuit_at, circuits_in}
use Rattle.capture_report.proofs.circuits.CircuitCount.in_order.Given as goal

abbrev pub invariant-loop-connection : goal.invariant-loop-connection
invariant-loop-connection l = l.circuits.items ++ filter_map (λ n. circuit_at n l.self) (drop l.connection-index l.connection-items) ≡ circuits_in l.self
