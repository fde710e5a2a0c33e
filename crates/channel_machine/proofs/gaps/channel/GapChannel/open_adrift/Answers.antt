use Rattle.std.proofs.Common.{refl, ◌∙◌, ap, false, None}
use Rattle.line_model.specs.declared.event.How.TheVariants.{Gap}
use Rattle.line_model.specs.channels.Gaps as gaps
use Rattle.line_model.specs.channels.GapStep.{calling_state}
use Rattle.channel_machine.specs.GapChannels.{RepresentsAdrift}
use Rattle.channel_machine.specs.GapView.KnownCertainty.{Adrift}
use Rattle.channel_machine.proofs.AdriftLemmas.{at_entry, became_unanswered}
use Rattle.channel_machine.proofs.Calls.{bare_after}
use Rattle.channel_machine.proofs.gaps.channel.GapChannel.open_adrift.Goals as goal

pub returns-clause-does : goal.returns-clause-does
returns-clause-does g c xs shows k s =
    let st : RepresentsAdrift _ c.args.adrift k = at_entry _ c.args.self.now c.args.adrift k c.self.view_is s in
    became_unanswered c.args.row.now.origin _ c.args.self.now _ _ _ c.args.adrift _ _ k c.self.view_is c.requires.not_permanent
    (c.in_ok-call_adrift.ensures.does k xs shows st.bare st.represented) refl (ap (λ b. Adrift b) (c.new.ensures ∙ (λ j. record { owed = c.owed.ensures j; hidden = false; last = gaps.of_both None })))
    (bare_after Gap (calling_state c.args.row.now.side) false k st.bare)
