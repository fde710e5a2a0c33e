use Rattle.std.proofs.Common.{◌≡◌, ◌∙◌, ap, sym, subst, false, append-nil, arith}
use Rattle.std.proofs.lemmas.Grind.{common_steps}
use Rattle.std.specs.Prelude.{IfOk}
use Rattle.line_model.specs.channels.ChannelStep.{call_change, entering, changing}
use Rattle.line_model.specs.packets.Classes.{packet_class}
use Rattle.channel_machine.specs.Reached.{is_from}
use Rattle.channel_machine.specs.TermsRepresent.{TermsRepresent}
use Rattle.channel_machine.specs.Agreed.{agreed_of}
use Rattle.channel_machine.specs.Moves.{IsChange}
use Rattle.channel_machine.specs.Channels.{Known, Does}
use Rattle.channel_machine.proofs.Reached.{unanswered}
use Rattle.channel_machine.proofs.channel.StatusChannel.go.Goals as goal

pub returns-in-Opens-clause-does : goal.returns-in-Opens-clause-does
returns-in-Opens-clause-does g c k item of r from s =
    let v = call_change c.args.judgement.now.side (packet_class item.packet) c.args.to in
    let change = subst (λ d. IsChange d v item.octets) c.in-Opens.is (c.change_of.ensures.change item of) in
    subst (λ v. IfOk c.open.result (λ _. Does c.args.judgement.now.origin c.args.self.now c.open.new.self c.args.events.now.items c.open.new.events.items (changing item.octets v (entering c.args.to false k))))
    (sym change.0) (c.open.ensures.does k item.octets change.1 r.bare s)

pub returns-in-GoesUp-clause-does : goal.returns-in-GoesUp-clause-does
returns-in-GoesUp-clause-does g c k item of r from s =
    let v = call_change c.args.judgement.now.side (packet_class item.packet) c.args.to in
    let change = subst (λ d. IsChange d v item.octets) c.in-GoesUp.is (c.change_of.ensures.change item of) in
    subst (λ v. IfOk c.go_up.result (λ _. Does c.args.judgement.now.origin c.args.self.now c.go_up.new.self c.args.events.now.items c.go_up.new.events.items (changing item.octets v (entering c.args.to false k))))
    (sym change.0) (c.go_up.ensures.does k item.octets change.1 (unanswered c.args.to k (ap (λ v. is_from v c.args.to k.state) (sym change.0) ∙ from) r) s)

pub returns-in-Keeps-clause-does : goal.returns-in-Keeps-clause-does
returns-in-Keeps-clause-does g c k item of r from s =
    let v = call_change c.args.judgement.now.side (packet_class item.packet) c.args.to in
    let change = subst (λ d. IsChange d v item.octets) c.in-Keeps.is (c.change_of.ensures.change item of) in
    let terms_are : agreed_of c.terms-terms.result ≡ c.args.self.now.terms = c.terms-terms.ensures ∙ ap (λ (o : Known). o.terms) c.self.view_is in
    subst (λ v. Does c.args.judgement.now.origin c.args.self.now c.enter.new.self c.args.events.now.items c.args.events.now.items (changing item.octets v (entering c.args.to false k)))
    (sym change)
    (record {
      interface = c.enter.ensures.interface ∙ ap (λ t. t.interface) terms_are;
      channel = c.enter.ensures.channel;
      represented = c.enter.ensures.represented k (subst (λ t. TermsRepresent t k) (sym terms_are) s.terms) s.transfer.settings;
      reports = sym (append-nil c.args.events.now.items);
    })

pub returns-in_ok-reserve-in-Ends-clause-does : goal.returns-in_ok-reserve-in-Ends-clause-does
returns-in_ok-reserve-in-Ends-clause-does g c = grind (arith, common_steps)
