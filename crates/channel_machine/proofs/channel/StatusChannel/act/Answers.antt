use Rattle.std.proofs.Common.{◌≡◌, sym, subst, ap, ◌∙◌, rules}
use Rattle.std.specs.Prelude.{IfOk}
use Rattle.line_model.specs.basics.Records.{Item}
use Rattle.line_model.specs.channels.ChannelStep.{call_change, failing}
use Rattle.line_model.specs.packets.Classes.{packet_class}
use Rattle.channel_machine.specs.Channels.{Does}
use Rattle.channel_machine.specs.Entries.{entry_step, is_entry}
use Rattle.channel_machine.specs.Reached.{is_from}
use Rattle.channel_machine.proofs.channel.StatusChannel.act.Goals as goal

pub returns-in-Move-clause-does : goal.returns-in-Move-clause-does
returns-in-Move-clause-does g c k reached s =
    let r : Item = c.args.item.now in
    let j = c.args.judgement.now in
    let old = c.args.self.now in
    let to = c.in-Move.to in
    subst (λ a. IfOk c.handle_move.result (λ _. Does j.origin old c.handle_move.new.self c.args.events.now.items c.handle_move.new.events.items (entry_step old.terms.interface old.channel (record { state = j.state; entry = a }) r k))) (sym c.in-Move.is)
    (c.handle_move.ensures.does k reached
    (ap (λ q. is_from (call_change j.side (packet_class r.packet) to) to q) (sym s.state)
    ∙ ap (λ a. is_entry a j.side (packet_class r.packet) old.state) (sym c.in-Move.is) ∙ c.requires.fits) s)

pub returns-in-Normal-clause-does : goal.returns-in-Normal-clause-does
returns-in-Normal-clause-does g c k reached s =
    let r : Item = c.args.item.now in
    let j = c.args.judgement.now in
    let old = c.args.self.now in
    subst (λ a. IfOk c.handle_transfer.result (λ _. Does j.origin old c.handle_transfer.new.self c.args.events.now.items c.handle_transfer.new.events.items (entry_step old.terms.interface old.channel (record { state = j.state; entry = a }) r k))) (sym c.in-Normal.is)
    (c.handle_transfer.ensures.does k s)

pub returns-in-Error-clause-does : goal.returns-in-Error-clause-does
returns-in-Error-clause-does g c k reached s =
    let r : Item = c.args.item.now in
    let j = c.args.judgement.now in
    let old = c.args.self.now in
    subst (λ a. IfOk c.fail.result (λ _. Does j.origin old c.fail.new.self c.args.events.now.items c.fail.new.events.items (entry_step old.terms.interface old.channel (record { state = j.state; entry = a }) r k))) (sym c.in-Error.is)
    (subst (λ x. IfOk c.fail.result (λ _. Does j.origin old c.fail.new.self c.args.events.now.items c.fail.new.events.items (failing x j.state c.in-Error.code k))) c.requires.side
    (c.fail.ensures.does k s))

pub returns-in_default-clause-does : goal.returns-in_default-clause-does
returns-in_default-clause-does g c = search rules
