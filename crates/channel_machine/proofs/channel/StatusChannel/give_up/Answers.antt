use Rattle.std.proofs.Common.{◌≡◌, ◌∙◌, ap, sym, subst, append-nil}
use Rattle.line_model.specs.channels.ChannelStep.{after_error}
use Rattle.channel_machine.specs.Agreed.{agreed_of}
use Rattle.channel_machine.specs.Channels.{Does, Known}
use Rattle.channel_machine.specs.TermsRepresent.{TermsRepresent}
use Rattle.channel_machine.proofs.Calls.{gives_up}
use Rattle.channel_machine.proofs.channel.StatusChannel.give_up.Goals as goal

pub returns-in_default : goal.returns-in_default
returns-in_default g c k s =
    subst (λ o. Does c.args.origin c.args.self.now c.end.new.self c.args.events.now.items c.end.new.events.items o)
    (gives_up c.args.state k c.in_default.not-D1 c.in_default.not-D2 c.in_default.not-D3) (c.end.ensures.does k s)

pub returns-in-D1 : goal.returns-in-D1
returns-in-D1 g c k s =
    let terms_are : agreed_of c.terms-terms.result ≡ c.args.self.now.terms = c.terms-terms.ensures ∙ ap (λ (o : Known). o.terms) c.self.view_is in
    subst (λ q. Does c.args.origin c.args.self.now c.enter.new.self c.args.events.now.items c.args.events.now.items (after_error q k)) (sym c.in-D1.is)
    (record {
      interface = c.enter.ensures.interface ∙ ap (λ t. t.interface) terms_are;
      channel = c.enter.ensures.channel;
      represented = c.enter.ensures.represented k (subst (λ t. TermsRepresent t k) (sym terms_are) s.terms) s.transfer.settings;
      reports = sym (append-nil c.args.events.now.items);
    })

pub returns-in-D2 : goal.returns-in-D2
returns-in-D2 g c k s =
    let terms_are : agreed_of c.terms-terms.result ≡ c.args.self.now.terms = c.terms-terms.ensures ∙ ap (λ (o : Known). o.terms) c.self.view_is in
    subst (λ q. Does c.args.origin c.args.self.now c.enter-in-D2.new.self c.args.events.now.items c.args.events.now.items (after_error q k)) (sym c.in-D2.is)
    (record {
      interface = c.enter-in-D2.ensures.interface ∙ ap (λ t. t.interface) terms_are;
      channel = c.enter-in-D2.ensures.channel;
      represented = c.enter-in-D2.ensures.represented k (subst (λ t. TermsRepresent t k) (sym terms_are) s.terms) s.transfer.settings;
      reports = sym (append-nil c.args.events.now.items);
    })

pub returns-in-D3 : goal.returns-in-D3
returns-in-D3 g c k s =
    let terms_are : agreed_of c.terms-terms.result ≡ c.args.self.now.terms = c.terms-terms.ensures ∙ ap (λ (o : Known). o.terms) c.self.view_is in
    subst (λ q. Does c.args.origin c.args.self.now c.enter-in-D3.new.self c.args.events.now.items c.args.events.now.items (after_error q k)) (sym c.in-D3.is)
    (record {
      interface = c.enter-in-D3.ensures.interface ∙ ap (λ t. t.interface) terms_are;
      channel = c.enter-in-D3.ensures.channel;
      represented = c.enter-in-D3.ensures.represented k (subst (λ t. TermsRepresent t k) (sym terms_are) s.terms) s.transfer.settings;
      reports = sym (append-nil c.args.events.now.items);
    })
