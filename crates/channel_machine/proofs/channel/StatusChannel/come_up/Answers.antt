use Rattle.std.proofs.Common.{◌≡◌, ◌∙◌, ap, [], ◌∷◌, ◌++◌, Some}
use Rattle.line_model.specs.channels.Gaps.{largest_terms}
use Rattle.channel_machine.specs.Largest.{largest_values}
use Rattle.channel_machine.specs.Agreed.{agreed_of}
use Rattle.channel_machine.specs.Channels.{Known}
use Rattle.channel_machine.proofs.Drifting.{largest_represents}
use Rattle.channel_machine.proofs.channel.StatusChannel.come_up.Goals as goal

pub returns-clause-does : goal.returns-clause-does
returns-clause-does g c k s =
    let terms_are : agreed_of c.terms.result ≡ c.args.self.now.terms = c.terms.ensures ∙ ap (λ (o : Known). o.terms) c.self.view_is in
    record {
      interface = c.enter.ensures.interface ∙ c.largest-terms.ensures.interface ∙ ap (λ t. t.interface) terms_are;
      channel = c.enter.ensures.channel;
      represented = c.enter.ensures.represented (record k { accepting = Some (largest_terms c.args.self.now.terms.interface) })
          (largest_represents c.args.self.now.terms (agreed_of c.largest-terms.result) k s.terms
          (c.largest-terms.ensures.interface ∙ ap (λ t. t.interface) terms_are) (c.largest-terms.ensures.call ∙ ap (λ t. t.call) terms_are)
          (c.largest-terms.ensures.values ∙ ap (λ t. largest_values t.interface) terms_are))
          s.transfer.settings;
      reports = c.push_reserved.ensures.items ∙ ap (λ v. c.args.events.now.items ++ v ∷ []) c.event.ensures;
    }
