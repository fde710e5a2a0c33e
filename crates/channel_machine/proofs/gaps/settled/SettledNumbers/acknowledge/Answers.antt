use Rattle.std.proofs.Common.{◌≡◌, ◌⊎◌, ◌∙◌, ap, subst}
use Rattle.line_model.specs.channels.Channels.{Channel, of_side}
use Rattle.line_model.specs.channels.ChannelStep.{counts_of}
use Rattle.line_model.specs.channels.GapStep.{completed_for_receive, completed_to}
use Rattle.data_transfer.specs.FlowResidues.{ResiduesRepresent}
use Rattle.channel_machine.specs.GapView.{InDoubt}
use Rattle.channel_machine.proofs.Completing.{acknowledges, not_acknowledged}
use Rattle.channel_machine.proofs.gaps.settled.SettledNumbers.acknowledge.Goals as goal

pub returns-in-Err-clause-counted : goal.returns-in-Err-clause-counted
returns-in-Err-clause-counted g c i k ns ss =
    let s : InDoubt = c.args.self.now in
    let d : Channel = completed_for_receive i.modulus s.doubts c.args.side c.args.receive k in
    let represented : ResiduesRepresent c.presumed-flow.result (counts_of d) =
    subst (λ y. ResiduesRepresent c.presumed-flow.result (counts_of (completed_to i.modulus (of_side y s.doubts.numbers) y c.args.receive k))) c.other.ensures (c.presumed-flow.ensures.represented i.modulus k ns) in
    not_acknowledged (Unit {0}) c.in-Err.code i s c.presumed-flow.result c.ack.new.self c.args.side c.args.receive k ns c.presumed-flow.ensures.modulus (c.in-Err.ensures.counts (counts_of d) represented)

pub returns-clause-counted : goal.returns-clause-counted
returns-clause-counted g c i k ns ss =
    let s : InDoubt = c.args.self.now in
    let d : Channel = completed_for_receive i.modulus s.doubts c.args.side c.args.receive k in
    let represented : ResiduesRepresent c.presumed-flow.result (counts_of d) =
    subst (λ y. ResiduesRepresent c.presumed-flow.result (counts_of (completed_to i.modulus (of_side y s.doubts.numbers) y c.args.receive k))) c.other.ensures (c.presumed-flow.ensures.represented i.modulus k ns) in
    acknowledges c.in_default.field-0 i s _ c.presumed-flow.result c.ack.new.self c.args.side c.args.receive k
    (subst (λ m. (m ≡ 8) ⊎ (m ≡ 128)) (ap (λ (t : InDoubt). t.flow.modulus) c.self.view_is ∙ ns.modulus) c.self.invariant.eight)
    ns ss c.presumed-flow.ensures.modulus c.presumed-flow.ensures.windows represented (c.in_default.ensures.counts (counts_of d) represented) c.in_default.ensures.modulus c.in_default.ensures.windows
    (λ j. record (c.self.view_is j) { flow = c.ack.new.self })
