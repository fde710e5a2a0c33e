use Rattle.std.proofs.Common.{refl, sym, ap, subst}
use Rattle.line_model.specs.channels.GapStep.{GapOutcome}
use Rattle.channel_machine.specs.GapChannels.{GapDoes, GapKnown, RepresentsAdrift, interface_of}
use Rattle.channel_machine.specs.GapView.KnownCertainty.{Adrift}
use Rattle.channel_machine.proofs.AdriftLemmas.{at_entry}
use Rattle.channel_machine.proofs.AdriftRows.{accepted_adrift, not_accepted, passed}
use Rattle.channel_machine.proofs.gaps.channel.GapChannel.accept_adrift.Goals as goal

pub returns-clause-does : goal.returns-clause-does
returns-clause-does g c xs shows is k s =
    let st : RepresentsAdrift _ c.args.adrift k = at_entry _ c.args.self.now c.args.adrift k c.self.view_is s in
    accepted_adrift c.args.row.now.origin _ c.args.self.now _ _ _ c.args.adrift c.is_hidden_when_accepted-hidden.result c.args.row.now.side xs k c.self.view_is st
    (sym (c.if-not-is_calling.ensures k st.represented)) (c.is_hidden_when_accepted-hidden.ensures k st.represented) (c.in_ok-accept_adrift.ensures.does k xs shows) refl (ap (λ b. Adrift b) c.hiding.ensures)

pub returns-then-not-is_calling-clause-does : goal.returns-then-not-is_calling-clause-does
returns-then-not-is_calling-clause-does g c xs shows is k s =
    let p : GapKnown = c.args.self.now in
    let st : RepresentsAdrift _ c.args.adrift k = at_entry _ p c.args.adrift k c.self.view_is s in
    subst (λ (o : GapOutcome). GapDoes c.args.row.now.origin p p c.args.events.now.items c.args.events.now.items o)
    (not_accepted (interface_of p) c.args.row.now.side xs c.args.adrift p k (c.if-not-is_calling.ensures k st.represented))
    (passed c.args.row.now.origin p c.args.events.now.items c.args.adrift k is s)
