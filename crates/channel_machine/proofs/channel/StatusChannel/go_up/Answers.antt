use Rattle.std.proofs.Common.{◌≡◌, sym, subst, ◌∙◌, ap, [], ◌∷◌, ◌++◌, Some}
use Rattle.channel_machine.specs.TermsRepresent.{TermsRepresent}
use Rattle.channel_machine.specs.Agreed.{agreed_of}
use Rattle.channel_machine.specs.Channels.{Known}
use Rattle.channel_machine.proofs.InForce.{accepted_represents}
use Rattle.channel_machine.proofs.channel.StatusChannel.go_up.Goals as goal

pub returns-clause-does : goal.returns-clause-does
returns-clause-does g c k xs shows u s =
    let terms_are : agreed_of c.terms.result ≡ c.args.self.now.terms = c.terms.ensures ∙ ap (λ (o : Known). o.terms) c.self.view_is in
    record {
      interface = c.enter.ensures.interface ∙ c.accepted-terms.ensures.interface ∙ ap (λ t. t.interface) terms_are;
      channel = c.enter.ensures.channel;
      represented = c.enter.ensures.represented (record k { accepting = Some xs })
          (accepted_represents (agreed_of c.terms.result) (agreed_of c.accepted-terms.result) k xs c.args.fields.now.sizes c.args.fields.now.windows
          (subst (λ t. TermsRepresent t k) (sym terms_are) s.terms) u.opened u.unanswered c.accepted-terms.ensures.interface c.accepted-terms.ensures.call
          (ap (λ f. f.sizes) shows) (ap (λ f. f.windows) shows) c.accepted-terms.ensures.values)
          s.transfer.settings;
      reports = c.push_reserved.ensures.items ∙ ap (λ l. l ++ c.event.result ∷ []) c.in_ok-reserve.ensures.items
          ∙ ap (λ v. c.args.events.now.items ++ v ∷ []) c.event.ensures;
    }
