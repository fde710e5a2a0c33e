-- Circuit by circuit.
use Rattle.capture_report.specs.CircuitChannels.{channel_of}
use Rattle.capture_report.proofs.CircuitLineLemmas.{lines_more}
use Rattle.capture_report.proofs.circuit_lines.append_circuits.Goals as goal

pub loop-circuit-preserved : goal.loop-circuit-preserved
loop-circuit-preserved c =
    lines_more (channel_of c.args.channels.now) c.args.circuits.now c.loop-circuit.circuit-index _ _ _ _ _ c.loop-circuit-test.true c.get.ensures.is c.in_ok-append_circuit.ensures c.in_ok-push.ensures.items c.loop-circuit.invariant
