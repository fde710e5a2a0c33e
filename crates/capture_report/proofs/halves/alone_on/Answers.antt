-- A number that is found comes behind those before it.
use Rattle.std.proofs.Common.{◌∙◌, ℕ, Global, Vec, ap, refl, sym}
use Rattle.capture_report.specs.Halves.{alone_number, alone_on}
use Rattle.capture_report.proofs.CircuitChannelLemmas.{no_circuit}
use Rattle.capture_report.proofs.SoFarLemmas.{found_more, passed_more, put_all}
use Rattle.capture_report.proofs.halves.alone_on.Goals.{in-Some+in_ok-push, in_default}
use Rattle.capture_report.proofs.halves.alone_on.Goals as goal

pub loop-circuit-preserved : goal.loop-circuit-preserved
loop-circuit-preserved c =
    let f = alone_number c.args.side in
    let xs = c.args.circuits.now in
    let i = c.loop-circuit.circuit-index in
    let before = c.loop-circuit.numbers.items in
    let after = c.match-alone_number.numbers.items in
    elim c.match-alone_number.branch [
      | in-Some+in_ok-push w ↦ found_more f xs i no_circuit w.in-Some.number before after _ c.loop-circuit-test.true (sym c.alone_number.ensures ∙ w.in-Some.is)
          (ap (λ (v : Vec ℕ Global). v.items) w.numbers-is ∙ w.in_ok-push.ensures.items) c.loop-circuit.invariant
      | in_default w ↦ passed_more f xs i no_circuit before after _ c.loop-circuit-test.true (sym c.alone_number.ensures ∙ w.in_default.is) (ap (λ (v : Vec ℕ Global). v.items) w.numbers-is) c.loop-circuit.invariant
    ]

pub returns : goal.returns
returns c = put_all (alone_on c.args.side) c.args.circuits.now c.loop-circuit.circuit-index c.loop-circuit.numbers.items _ c.loop-circuit-test.false refl c.loop-circuit.invariant
