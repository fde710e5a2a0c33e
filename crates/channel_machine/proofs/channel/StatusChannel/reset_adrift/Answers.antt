use Rattle.std.proofs.Common.{◌≡◌, sym, ◌∙◌, ap, subst, append-nil}
use Rattle.line_model.specs.channels.ChannelStep.{Outcome}
use Rattle.line_model.specs.channels.GapStep.{brought_up, in_state}
use Rattle.channel_machine.specs.Agreed.{agreed_of}
use Rattle.channel_machine.specs.Channels.{Does, Known}
use Rattle.channel_machine.specs.TermsRepresent.{TermsRepresent}
use Rattle.channel_machine.proofs.Calls.{after_events}
use Rattle.channel_machine.proofs.channel.StatusChannel.reset_adrift.Goals as goal

pub returns-clause-does : goal.returns-clause-does
returns-clause-does g c k s =
    let first : Outcome = brought_up c.args.self.now.terms.interface k in
    let d : Does c.args.origin c.args.self.now c.bring_up.new.self c.args.events.now.items c.bring_up.new.events.items first =
    subst (λ l. Does c.args.origin c.args.self.now c.bring_up.new.self l c.bring_up.new.events.items first) c.in_ok-reserve.ensures.items (c.bring_up.ensures.does k s) in
    let terms_are : agreed_of c.terms-terms.result ≡ c.bring_up.new.self.terms = c.terms-terms.ensures ∙ ap (λ (o : Known). o.terms) c.self.view_is in
    after_events c.args.origin c.args.self.now c.bring_up.new.self c.enter.new.self c.args.events.now.items c.bring_up.new.events.items c.bring_up.new.events.items
    first.reported first.after (in_state c.args.to) d.interface d.channel d.reports
    (record {
      interface = c.enter.ensures.interface ∙ ap (λ t. t.interface) terms_are;
      channel = c.enter.ensures.channel;
      represented = c.enter.ensures.represented first.after (subst (λ t. TermsRepresent t first.after) (sym terms_are) d.represented.terms) d.represented.transfer.settings;
      reports = sym (append-nil c.bring_up.new.events.items);
    })
