-- One more circuit.
use Rattle.std.proofs.Common.{◌≡◌, ◌∙◌, ◌+◌, ap, arith, cond, filter, get_or, is_none, length, sym, take, ℕ}
use Rattle.std.proofs.lemmas.List.Filters.{length-filter_more}
use Rattle.capture_report.specs.CircuitChannels.{channel_of}
use Rattle.capture_report.specs.declared.circuits.SeenCircuit.{SeenCircuit}
use Rattle.capture_report.proofs.CircuitChannelLemmas.{no_circuit}
use Rattle.capture_report.proofs.circuits.without_channel.Goals as goal
use Rattle.capture_report.proofs.circuits.without_channel.Goals.{else-lack, then-lack}

pub loop-circuit-preserved : goal.loop-circuit-preserved
loop-circuit-preserved c =
    let cs = c.args.circuits.now in
    let i = c.loop-circuit.circuit-index in
    let lacks = λ (x : SeenCircuit). is_none (channel_of c.args.channels.now x.connection) in
    let so_far = length (filter lacks (take i cs)) in
    let more : length (filter lacks (take (i + 1) cs)) ≡ so_far + cond c.lack.result 1 0 =
    length-filter_more lacks cs i no_circuit c.loop-circuit-test.true ∙ ap (λ b. so_far + cond b 1 0) (sym c.lack.ensures) in
    elim c.if-lack.branch [
      | then-lack w ↦
          let one : length (filter lacks (take (i + 1) cs)) ≡ so_far + 1 = more ∙ ap (λ b. so_far + cond b 1 0) w.if-lack.true in
          record {
            is = omega (arith, w.count-is, c.loop-circuit.invariant.is, one);
            within = omega (arith, w.count-is, c.loop-circuit.invariant.within);
          }
      | else-lack w ↦
          let none : length (filter lacks (take (i + 1) cs)) ≡ so_far + 0 = more ∙ ap (λ b. so_far + cond b 1 0) w.if-lack.false in
          record {
            is = omega (arith, w.count-is, c.loop-circuit.invariant.is, none);
            within = omega (arith, w.count-is, c.loop-circuit.invariant.within);
          }
    ]
