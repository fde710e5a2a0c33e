-- The lines so far come before those of the circuits that are left.
use Rattle.std.proofs.Common.{◌≡◌, ◌++◌, drop}
use Rattle.capture_report.specs.CircuitChannels.{channel_of}
use Rattle.capture_report.specs.CircuitLines.{circuits_text}
use Rattle.capture_report.proofs.circuit_lines.append_circuits.Given as goal

abbrev pub invariant-loop-circuit : goal.invariant-loop-circuit
invariant-loop-circuit l = l.out.items ++ circuits_text (channel_of l.channels) (drop l.circuit-index l.circuits) ≡ l.fn.out.items ++ circuits_text (channel_of l.channels) l.circuits
