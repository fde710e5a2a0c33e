-- The circuits without a channel among the first ones.
use Rattle.std.proofs.Common.{◌≡◌, ◌≤◌, take}
use Rattle.capture_report.specs.CircuitChannels.{channel_of}
use Rattle.capture_report.specs.Reasons.{without_channel}
use Rattle.capture_report.proofs.circuits.without_channel.Given as goal

abbrev pub invariant-loop-circuit : goal.invariant-loop-circuit
invariant-loop-circuit l = record {
  is : l.count ≡ without_channel (channel_of l.channels) (take l.circuit-index l.circuits);
  within : l.count ≤ l.circuit-index;
}
