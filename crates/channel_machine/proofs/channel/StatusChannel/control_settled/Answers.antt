use Rattle.std.proofs.Common.{◌≡◌, Ok, sym, ◌∙◌, ap, subst}
use Rattle.std.specs.Prelude.{IfOk}
use Rattle.line_model.specs.basics.Records.{Item}
use Rattle.line_model.specs.declared.state.Side.{Side}
use Rattle.line_model.specs.packets.Classes.{packet_class}
use Rattle.line_model.specs.packets.Says.{header_in, receive_in}
use Rattle.line_model.specs.channels.GapStep.{failing_in_doubt, receive_by, transferring_in_doubt}
use Rattle.channel_machine.specs.GapChannels.{RepresentsSettled}
use Rattle.channel_machine.specs.GapView.{InDoubt}
use Rattle.channel_machine.specs.SettledSteps.{IsControlled, SettledDoes}
use Rattle.channel_machine.proofs.SettledRows.{controlled, other_receive}
use Rattle.channel_machine.proofs.channel.StatusChannel.control_settled.Goals as goal

pub returns-in-Ok-clause-does : goal.returns-in-Ok-clause-does
returns-in-Ok-clause-does g c k st =
    let r : Item = c.args.item.now in
    let j = c.args.judgement.now in
    let i = c.args.self.now.terms.interface in
    let class = c.class-class.ensures ∙ ap (λ (u : Item). packet_class u.packet) c.item.view_is in
    let receive = c.received.ensures ∙ ap (λ (u : Item). receive_by (header_in u.packet) (receive_in u.packet)) c.item.view_is ∙ other_receive r.packet c.requires.no_data in
    controlled c.in-Ok.field-0 j.origin c.args.self.now c.args.settled.now c.control.new.self c.args.events.now.items j.side j.state c.args.settled.now.doubts k _ st c.requires.in_d1
    (subst (λ v. IsControlled {U = Unit {0}} (Ok c.in-Ok.field-0) i j.side j.state c.control.new.self c.args.settled.now.doubts k (transferring_in_doubt i j.state v r c.args.settled.now.doubts k)) class
    (c.in-Ok.ensures.judged i k j.state r (sym c.requires.side) receive st.numbers st.sequences))

pub returns-in-Err-clause-does : goal.returns-in-Err-clause-does
returns-in-Err-clause-does g c k st =
    let r : Item = c.args.item.now in
    let j = c.args.judgement.now in
    let i = c.args.self.now.terms.interface in
    let class = c.class-class.ensures ∙ ap (λ (u : Item). packet_class u.packet) c.item.view_is in
    let receive = c.received.ensures ∙ ap (λ (u : Item). receive_by (header_in u.packet) (receive_in u.packet)) c.item.view_is ∙ other_receive r.packet c.requires.no_data in
    let fails : transferring_in_doubt i j.state (packet_class r.packet) r c.args.settled.now.doubts k ≡ failing_in_doubt j.side j.state c.in-Err.code c.args.settled.now.doubts k =
    ap (λ v. transferring_in_doubt i j.state v r c.args.settled.now.doubts k) (sym class) ∙ c.in-Err.ensures.judged i k j.state r (sym c.requires.side) receive st.numbers st.sequences in
    let same : c.control.new.self ≡ c.args.settled.now = c.in-Err.ensures.unchanged in
    subst (λ o. IfOk c.act_settled.result (λ _. SettledDoes j.origin c.args.self.now c.act_settled.new.self c.act_settled.new.settled c.args.events.now.items c.act_settled.new.events.items o)) (sym fails)
    (subst (λ (v : Side × InDoubt). IfOk c.act_settled.result (λ _. SettledDoes j.origin c.args.self.now c.act_settled.new.self c.act_settled.new.settled c.args.events.now.items c.act_settled.new.events.items (failing_in_doubt v.0 j.state c.in-Err.code v.1.doubts k))) (λ z. (sym c.requires.side z, same z))
    (c.act_settled.ensures.does k (subst (λ (s : InDoubt). RepresentsSettled c.args.self.now s k) (sym same) st)))
