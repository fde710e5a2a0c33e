use Rattle.std.proofs.Common.{◌≡◌, false, ◌||◌, ◌∙◌, ap, subst, sym, Some}
use Rattle.line_model.specs.declared.interface.Interface.{Interface}
use Rattle.line_model.specs.declared.state.StateName.{StateName}
use Rattle.line_model.specs.channels.Channels.{Channel, is_in_transfer, is_permanent}
use Rattle.line_model.specs.channels.ChannelStep.{entering}
use Rattle.line_model.specs.channels.Gaps.{idle_name, largest_terms, with_largest_terms}
use Rattle.channel_machine.specs.Largest.{largest_values}
use Rattle.channel_machine.specs.Agreed.{agreed_of}
use Rattle.channel_machine.specs.TermsRepresent.{TermsRepresent}
use Rattle.channel_machine.specs.Channels.{Known, StatusRepresents}
use Rattle.channel_machine.proofs.Drifting.{largest_represents}
use Rattle.channel_machine.proofs.channel.StatusChannel.drift.Goals as goal

pub returns-then-is_hidden_by_gap-clause-represented : goal.returns-then-is_hidden_by_gap-clause-represented
returns-then-is_hidden_by_gap-clause-represented g c k s =
    let terms_are : agreed_of c.terms-terms.result ≡ c.args.self.now.terms = c.terms-terms.ensures ∙ ap (λ (o : Known). o.terms) c.self.view_is in
    let hidden : Channel = record k { accepting = Some (largest_terms c.args.self.now.terms.interface) } in
    let done : StatusRepresents c.enter.new.self (entering c.idle_name-state.result false hidden) =
    c.enter.ensures.represented hidden
    (largest_represents c.args.self.now.terms (agreed_of c.largest.result) k s.terms
    (c.largest.ensures.interface ∙ ap (λ t. t.interface) terms_are) (c.largest.ensures.call ∙ ap (λ t. t.call) terms_are)
    (c.largest.ensures.values ∙ ap (λ t. largest_values t.interface) terms_are))
    s.transfer.settings in
    let i : Interface = c.args.self.now.terms.interface in
    let name : StateName = idle_name (is_permanent i c.args.self.now.channel || is_in_transfer k) k.opening in
    subst (λ b. StatusRepresents c.enter.new.self (with_largest_terms b i (entering name false k))) (c.if-is_hidden_by_gap.ensures k s)
    (subst (λ q. StatusRepresents c.enter.new.self (entering q false hidden)) (c.idle_name-state.ensures k s) done)

pub returns-else-is_hidden_by_gap-clause-represented : goal.returns-else-is_hidden_by_gap-clause-represented
returns-else-is_hidden_by_gap-clause-represented g c k s =
    let terms_are : agreed_of c.terms-terms.result ≡ c.args.self.now.terms = c.terms-terms.ensures ∙ ap (λ (o : Known). o.terms) c.self.view_is in
    let i : Interface = c.args.self.now.terms.interface in
    let name : StateName = idle_name (is_permanent i c.args.self.now.channel || is_in_transfer k) k.opening in
    subst (λ b. StatusRepresents c.enter-else-is_hidden_by_gap.new.self (with_largest_terms b i (entering name false k))) (c.if-is_hidden_by_gap.ensures k s)
    (subst (λ q. StatusRepresents c.enter-else-is_hidden_by_gap.new.self (entering q false k)) (c.idle_name-state.ensures k s)
    (c.enter-else-is_hidden_by_gap.ensures.represented k (subst (λ t. TermsRepresent t k) (sym terms_are) s.terms) s.transfer.settings))
