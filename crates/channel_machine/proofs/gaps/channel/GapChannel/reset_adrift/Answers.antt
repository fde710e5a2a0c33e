use Rattle.std.proofs.Common.{refl, sym, ◌∙◌, None, arith}
use Rattle.std.proofs.lemmas.Grind.{common_steps}
use Rattle.line_model.specs.channels.Gaps as gaps
use Rattle.channel_machine.specs.GapChannels.{RepresentsAdrift}
use Rattle.channel_machine.proofs.AdriftLemmas.{at_entry}
use Rattle.channel_machine.proofs.AdriftRows.{reset_adrift}
use Rattle.channel_machine.proofs.gaps.channel.GapChannel.reset_adrift.Goals as goal

pub returns-clause-does : goal.returns-clause-does
returns-clause-does g c k s =
    let st : RepresentsAdrift _ c.args.adrift k = at_entry _ c.args.self.now c.args.adrift k c.self.view_is s in
    reset_adrift c.args.row.now.origin _ c.args.self.now _ _ _ c.args.adrift c.new.result c.args.to k c.self.view_is st c.requires.transfer (sym (c.if-not-is_in_use.ensures k st.represented))
    (c.new.ensures ∙ (λ j. record { owed = c.owed.ensures j; hidden = c.is_hidden_when_up-hidden.ensures k st.represented j; last = gaps.of_both None }))
    (c.in_ok-reset_adrift.ensures.does k st.represented) refl refl

pub returns-then-not-is_in_use-clause-does : goal.returns-then-not-is_in_use-clause-does
returns-then-not-is_in_use-clause-does g c = grind (arith, common_steps)
