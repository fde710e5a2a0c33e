use Rattle.std.proofs.Common.{false, refl, ◌∙◌, ap}
use Rattle.line_model.specs.channels.Channels.{Channel, of_side}
use Rattle.line_model.specs.channels.ChannelStep.{counts_of}
use Rattle.line_model.specs.channels.FlowControl.{count_interrupt}
use Rattle.line_model.specs.channels.Gaps.{Doubts}
use Rattle.line_model.specs.channels.GapStep.{with_interrupt}
use Rattle.data_transfer.specs.FlowResidues.{ResiduesRepresent}
use Rattle.channel_machine.specs.GapView.{InDoubt}
use Rattle.channel_machine.proofs.Completing.{flagged, interrupt_keeps, interrupt_rest, not_flagged}
use Rattle.channel_machine.proofs.gaps.settled.SettledNumbers.interrupt.Goals as goal

pub returns-in-Err-clause-counted : goal.returns-in-Err-clause-counted
returns-in-Err-clause-counted g c i k ns ss =
    let s : InDoubt = c.args.self.now in
    let x = c.args.side in
    let y = c.args.side in
    let d : Channel = with_interrupt (of_side y s.doubts.interrupts) y false k in
    let represented : ResiduesRepresent c.with_interrupt-flow.result (counts_of d) =
    c.with_interrupt-flow.ensures.represented k ns.flow in
    not_flagged (Unit {0}) c.in-Err.code c.with_interrupt-flow.result c.interrupt.new.self (count_interrupt (counts_of d) x) (c.in-Err.ensures.counts (counts_of d) represented)

pub returns-clause-counted : goal.returns-clause-counted
returns-clause-counted g c i k ns ss =
    let s : InDoubt = c.args.self.now in
    let x = c.args.side in
    let y = c.args.side in
    let d : Channel = with_interrupt (of_side y s.doubts.interrupts) y false k in
    let represented : ResiduesRepresent c.with_interrupt-flow.result (counts_of d) =
    c.with_interrupt-flow.ensures.represented k ns.flow in
    flagged c.in_default.field-0 i s _ c.with_interrupt-flow.result c.interrupt.new.self (count_interrupt (counts_of d) x) k d ns ss (interrupt_rest (of_side y s.doubts.interrupts) y false k)
    (λ v e. interrupt_keeps (counts_of d) v x e) c.with_interrupt-flow.ensures.modulus c.with_interrupt-flow.ensures.windows (c.in_default.ensures.counts (counts_of d) represented)
    c.in_default.ensures.modulus c.in_default.ensures.windows refl (ap (λ (t : InDoubt). t.assembler) c.self.view_is)
    (ap (λ (e : Doubts). e.numbers) c.settle_interrupt.ensures ∙ ap (λ (t : InDoubt). t.doubts.numbers) c.self.view_is)
    (ap (λ (e : Doubts). e.sequences) c.settle_interrupt.ensures ∙ ap (λ (t : InDoubt). t.doubts.sequences) c.self.view_is)
    (ap (λ (e : Doubts). e.hidden) c.settle_interrupt.ensures ∙ ap (λ (t : InDoubt). t.doubts.hidden) c.self.view_is)
