-- Each circuit's comes behind those before it.
use Rattle.std.proofs.Common.{map, refl}
use Rattle.capture_report.specs.declared.circuits.SeenCircuit.{SeenCircuit}
use Rattle.capture_report.proofs.CircuitChannelLemmas.{no_circuit}
use Rattle.capture_report.proofs.SoFarLemmas.{mapped_more, put_all}
use Rattle.capture_report.proofs.circuits.wanted_of.Goals as goal

pub loop-circuit-preserved : goal.loop-circuit-preserved
loop-circuit-preserved c =
    mapped_more (λ (x : SeenCircuit). x.wanted) c.args.circuits.now c.loop-circuit.circuit-index no_circuit c.loop-circuit.wanted.items _ _ c.loop-circuit-test.true c.in_ok-push.ensures.items c.loop-circuit.invariant

pub returns : goal.returns
returns c =
    put_all (map (λ (x : SeenCircuit). x.wanted)) c.args.circuits.now c.loop-circuit.circuit-index c.loop-circuit.wanted.items _ c.loop-circuit-test.false refl c.loop-circuit.invariant
