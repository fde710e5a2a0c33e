use Rattle.std.proofs.Common.{refl, sym, ◌∙◌, ap, subst}
use Rattle.line_model.specs.declared.interface.Interface.{Interface}
use Rattle.line_model.specs.channels.GapStep.{brought_up, settled_doubts}
use Rattle.channel_machine.specs.Channels.{StatusRepresents}
use Rattle.channel_machine.specs.GapChannels.{GapKnown, interface_of}
use Rattle.channel_machine.specs.GapSteps.{IsBare}
use Rattle.channel_machine.specs.GapView.KnownCertainty.{Settled}
use Rattle.channel_machine.specs.SettledNumbers.{NumbersRepresent}
use Rattle.channel_machine.specs.Settling.{settled_after}
use Rattle.channel_machine.proofs.AdriftRows.{settles}
use Rattle.channel_machine.proofs.gaps.channel.GapChannel.settle.Goals as goal

pub returns-clause-does : goal.returns-clause-does
returns-clause-does g c b k s bare =
    settles c.args.row.now.origin _ c.args.self.now _ _ _ c.args.item.now c.args.adrift.now b c.args.settling.now c.in_ok-settled.settled.value k c.self.view_is c.requires.side c.requires.header
    (subst (λ (q : GapKnown). IsBare (brought_up (interface_of q) k).after) (sym c.self.view_is) bare)
    (c.in_ok-settled.ensures.doubts ∙ ap (λ h. settled_doubts h c.args.settling.now.side c.args.settling.now.header) c.is_hidden-hidden.ensures)
    (λ d. subst (λ (i : Interface). NumbersRepresent i.modulus c.in_ok-settled.settled.value (settled_after i.modulus c.args.settling.now d)) c.interface-interface.ensures (c.in_ok-settled.ensures.numbers d))
    c.in_ok-settled.ensures.sequences
    (c.in_ok-carry_on.ensures.does k (subst (λ (q : GapKnown). StatusRepresents q.channel k) (sym c.self.view_is) s))
    refl refl
