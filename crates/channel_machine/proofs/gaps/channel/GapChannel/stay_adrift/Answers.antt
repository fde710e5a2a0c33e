use Rattle.std.proofs.Common.{◌≡◌, refl, sym, ◌∙◌, ap, subst}
use Rattle.line_model.specs.basics.Records.{Item}
use Rattle.line_model.specs.packets.Says.{header_in}
use Rattle.line_model.specs.channels.GapStep.{brought_up, last_after, receive_of}
use Rattle.channel_machine.specs.Channels.{StatusRepresents}
use Rattle.channel_machine.specs.GapChannels.{GapKnown, interface_of}
use Rattle.channel_machine.specs.GapSteps.{IsBare}
use Rattle.channel_machine.proofs.AdriftRows.{stayed}
use Rattle.channel_machine.proofs.gaps.channel.GapChannel.stay_adrift.Goals as goal

pub returns-clause-does : goal.returns-clause-does
returns-clause-does g c b o l none k s bare =
    let r : Item = c.args.item.now in
    let is : c.receive.new.self ≡ record c.args.adrift { last = last_after c.self.inside.channel.terms.interface.modulus r.side (header_in r.packet) (receive_of r) c.args.adrift.last } =
    c.receive.ensures ∙ (λ j. record c.args.adrift {
      last = last_after (c.interface-modulus.ensures j).modulus (c.requires.side j) ((c.data_header-header.ensures ∙ ap (λ (u : Item). header_in u.packet) c.item.view_is) j)
          ((c.received.ensures ∙ ap (λ (u : Item). receive_of u) c.item.view_is) j) c.args.adrift.last;
    }) in
    stayed c.args.row.now.origin _ c.args.self.now _ _ _ r c.args.adrift b c.receive.new.self c.args.row.now.side (header_in r.packet) o l k c.self.view_is none
    (subst (λ (q : GapKnown). IsBare (brought_up (interface_of q) k).after) (sym c.self.view_is) bare)
    is
    (c.in_ok-carry_on.ensures.does k (subst (λ (q : GapKnown). StatusRepresents q.channel k) (sym c.self.view_is) s))
    refl refl
