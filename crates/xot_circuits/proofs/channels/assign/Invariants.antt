-- What is left is planned after what was given.
use Rattle.std.proofs.Common.{◌≡◌, ◌++◌, drop, length}
use Rattle.xot_circuits.specs.Plans.{new_channels, plan_of}
use Rattle.xot_circuits.proofs.channels.assign.Given as goal

abbrev pub invariant-loop-circuit : goal.invariant-loop-circuit
invariant-loop-circuit l = record {
  planned : l.all.items ++ plan_of l.channels (drop l.circuit-index l.circuits) ≡ plan_of (new_channels l.fn.interface) l.circuits;
  each : length l.all.items ≡ l.circuit-index;
}
