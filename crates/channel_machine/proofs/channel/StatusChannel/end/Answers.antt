use Rattle.std.proofs.Common.{◌≡◌, refl, sym, ◌∙◌, ap, subst, [], ◌∷◌, ◌++◌, append-nil, None}
use Rattle.line_model.specs.channels.Channels.{Channel}
use Rattle.line_model.specs.channels.ChannelStep.{entering}
use Rattle.channel_machine.specs.TermsRepresent.{TermsRepresent, values_of}
use Rattle.channel_machine.specs.Agreed.{agreed_of}
use Rattle.channel_machine.specs.Channels.{Known, Does}
use Rattle.channel_machine.proofs.Calls.{ends, ends_none, ended}
use Rattle.channel_machine.proofs.InForce.{bare_represents}
use Rattle.channel_machine.proofs.channel.StatusChannel.end.Goals as goal

pub returns-in-None-clause-does : goal.returns-in-None-clause-does
returns-in-None-clause-does g c k s =
    let terms_are : agreed_of c.terms-terms.result ≡ c.args.self.now.terms = c.terms-terms.ensures ∙ ap (λ (o : Known). o.terms) c.self.view_is in
    subst (λ o. Does c.args.origin c.args.self.now c.enter.new.self c.args.events.now.items c.args.events.now.items o)
    (ends_none c.args.how (entering c.args.to c.args.owed k) c.terms-terms.result.call (ap (λ t. t.call) terms_are ∙ s.terms.call) c.in-None.is)
    (record {
      interface = c.enter.ensures.interface ∙ ap (λ t. t.interface) terms_are;
      channel = c.enter.ensures.channel;
      represented = c.enter.ensures.represented k (subst (λ t. TermsRepresent t k) (sym terms_are) s.terms) s.transfer.settings;
      reports = sym (append-nil c.args.events.now.items);
    })

pub returns-in-Some-clause-does : goal.returns-in-Some-clause-does
returns-in-Some-clause-does g c k s =
    let terms_are : agreed_of c.terms-terms.result ≡ c.args.self.now.terms = c.terms-terms.ensures ∙ ap (λ (o : Known). o.terms) c.self.view_is in
    let bare : Channel = record k { opening = None; accepting = None; pad_messages = [] } in
    let done : Does c.args.origin c.args.self.now c.enter-in-Some.new.self c.args.events.now.items c.push_reserved.new.self.items (ended c.args.how (entering c.args.to c.args.owed k)) =
    record {
      interface = c.enter-in-Some.ensures.interface ∙ c.new.ensures.interface ∙ ap (λ t. t.interface) terms_are;
      channel = c.enter-in-Some.ensures.channel ∙ ap (λ (o : Known). o.channel) c.self.view_is;
      represented = c.enter-in-Some.ensures.represented bare
          (bare_represents (agreed_of c.new.result) bare refl refl c.new.ensures.call (c.new.ensures.values ∙ ap (λ i. values_of i) (sym c.new.ensures.interface)))
          c.new-self-inside.ensures;
      reports = c.push_reserved.ensures.items ∙ ap (λ v. c.args.events.now.items ++ v ∷ []) c.event.ensures;
    } in
    subst (λ o. Does c.args.origin c.args.self.now c.enter-in-Some.new.self c.args.events.now.items c.push_reserved.new.self.items o)
    (ends c.args.how (entering c.args.to c.args.owed k) c.terms-terms.result.call c.in-Some.field-0 (ap (λ t. t.call) terms_are ∙ s.terms.call) c.in-Some.is) done
