use Rattle.std.proofs.Common.{refl, ◌∙◌, ap, subst, false, None}
use Rattle.line_model.specs.declared.gap.AdriftEntry.TheVariants.{Clears}
use Rattle.line_model.specs.declared.state.StateName.TheVariants.{P1}
use Rattle.line_model.specs.channels.ChannelStep.{ending, entering}
use Rattle.line_model.specs.channels.Gaps as gaps
use Rattle.line_model.specs.channels.GapStep.{cleared_by, owed_after}
use Rattle.channel_machine.specs.Channels.{Does}
use Rattle.channel_machine.specs.GapChannels.{RepresentsAdrift}
use Rattle.channel_machine.specs.GapView.KnownCertainty.{Adrift}
use Rattle.channel_machine.proofs.AdriftLemmas.{at_entry, became_unanswered}
use Rattle.channel_machine.proofs.Calls.{bare_after}
use Rattle.channel_machine.proofs.gaps.channel.GapChannel.clear_adrift.Goals as goal

pub returns-clause-does : goal.returns-clause-does
returns-clause-does g c k s =
    let st : RepresentsAdrift _ c.args.adrift k = at_entry _ c.args.self.now c.args.adrift k c.self.view_is s in
    let x = c.args.row.now.side in
    let d : Does c.args.row.now.origin c.self.inside.channel c.end.new.self c.args.events.now.items c.end.new.events.items (ending (cleared_by x) (entering P1 false k)) =
    subst (λ l. Does c.args.row.now.origin c.self.inside.channel c.end.new.self l c.end.new.events.items (ending (cleared_by x) (entering P1 false k))) c.in_ok-reserve.ensures.items
    (subst (λ h. Does c.args.row.now.origin c.self.inside.channel c.end.new.self c.reserve.new.self.items c.end.new.events.items (ending h (entering P1 false k))) c.cleared_by.ensures
    (c.end.ensures.does k st.represented)) in
    became_unanswered c.args.row.now.origin _ c.args.self.now _ _ _ c.args.adrift _ _ k c.self.view_is c.requires.not_permanent d refl
    (ap (λ b. Adrift b) (c.new.ensures ∙ (λ j. record {
      owed = (c.owed_after-owed.ensures ∙ ap (λ w. owed_after x Clears w) c.owed.ensures) j;
      hidden = false;
      last = gaps.of_both None;
    })))
    (bare_after (cleared_by x) P1 false k st.bare)
