use Rattle.std.proofs.Common.{◌≡◌, sym, subst, ap, ◌∙◌, None, Some}
use Rattle.std.specs.Prelude.{IfOk}
use Rattle.line_model.specs.declared.table.Action.TheVariants.{Normal}
use Rattle.line_model.specs.basics.Records.{Item}
use Rattle.line_model.specs.channels.ChannelStep.{failing, transferring, verdict, verdict_step}
use Rattle.line_model.specs.packets.Classes.{packet_class}
use Rattle.line_model.specs.packets.Formats.{packet_fault}
use Rattle.channel_machine.specs.Channels.{Does}
use Rattle.channel_machine.specs.Entries.{is_transfer}
use Rattle.channel_machine.proofs.SettledRows.{no_call, transfer_fault}
use Rattle.channel_machine.proofs.channel.StatusChannel.handle_transfer.Goals as goal

pub returns-in-Some-clause-does : goal.returns-in-Some-clause-does
returns-in-Some-clause-does g c k s =
    let r : Item = c.args.item.now in
    let j = c.args.judgement.now in
    let p = c.args.self.now in
    let class = c.class-class.ensures ∙ ap (λ (u : Item). packet_class u.packet) c.item.view_is in
    let fault : Some c.in-Some.code ≡ packet_fault p.terms.interface p.channel k r =
    transfer_fault p.terms.interface p.channel k r j.side c.class-class.result c.item.inside.length _ c.requires.side class (ap (λ (u : Item). u.length) c.item.view_is) c.requires.transfer
    (c.in-Some.ensures.fault k r.octets s (no_call c.class-class.result (ap (λ v. is_transfer v) class ∙ c.requires.transfer))) in
    subst (λ f. IfOk c.fail.result (λ _. Does j.origin p c.fail.new.self c.args.events.now.items c.fail.new.events.items
    (verdict_step p.terms.interface j.state r (verdict (record { state = j.state; entry = Normal }) f) k))) fault
    (subst (λ x. IfOk c.fail.result (λ _. Does j.origin p c.fail.new.self c.args.events.now.items c.fail.new.events.items (failing x j.state c.in-Some.code k))) c.requires.side
    (c.fail.ensures.does k s))

pub returns-in-None-clause-does : goal.returns-in-None-clause-does
returns-in-None-clause-does g c k s =
    let r : Item = c.args.item.now in
    let j = c.args.judgement.now in
    let p = c.args.self.now in
    let class = c.class-class.ensures ∙ ap (λ (u : Item). packet_class u.packet) c.item.view_is in
    let fault : None ≡ packet_fault p.terms.interface p.channel k r =
    transfer_fault p.terms.interface p.channel k r j.side c.class-class.result c.item.inside.length _ c.requires.side class (ap (λ (u : Item). u.length) c.item.view_is) c.requires.transfer
    (c.in-None.ensures.fault k r.octets s (no_call c.class-class.result (ap (λ v. is_transfer v) class ∙ c.requires.transfer))) in
    subst (λ f. IfOk c.carry.result (λ _. Does j.origin p c.carry.new.self c.args.events.now.items c.carry.new.events.items
    (verdict_step p.terms.interface j.state r (verdict (record { state = j.state; entry = Normal }) f) k))) fault
    (subst (λ v. IfOk c.carry.result (λ _. Does j.origin p c.carry.new.self c.args.events.now.items c.carry.new.events.items (transferring p.terms.interface j.state v r k))) class
    (c.carry.ensures.does k s))
