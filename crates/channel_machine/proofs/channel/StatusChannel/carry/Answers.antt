use Rattle.std.proofs.Common.{[], append-nil, sym, subst, arith}
use Rattle.std.specs.Prelude.{IfOk}
use Rattle.std.proofs.lemmas.Grind.{elements}
use Rattle.line_model.specs.channels.ChannelStep.{transferring}
use Rattle.channel_machine.specs.Channels.{Does}
use Rattle.channel_machine.proofs.Taking.{passes_listed}
use Rattle.channel_machine.proofs.channel.StatusChannel.carry.Goals as goal

pub returns-in-Ok-clause-does : goal.returns-in-Ok-clause-does
returns-in-Ok-clause-does g c k s =
    let j = c.args.judgement.now in
    let es = c.args.events.now.items in
    passes_listed j.origin c.args.self.now c.accept_control.new.self es es [] (transferring c.args.self.now.terms.interface j.state c.args.class c.args.item.now k)
    (c.in-Ok.ensures.judged k j.state s) (sym (append-nil es))

pub returns-in-Data-clause-does : goal.returns-in-Data-clause-does
returns-in-Data-clause-does g c k s =
    let j = c.args.judgement.now in
    let p = c.args.self.now in
    subst (λ v. IfOk c.handle_data.result (λ _. Does j.origin p c.handle_data.new.self c.args.events.now.items c.handle_data.new.events.items (transferring p.terms.interface j.state v c.args.item.now k))) (sym c.in-Data.is)
    (c.handle_data.ensures.does k s)

pub returns-in-Err : goal.returns-in-Err
returns-in-Err g c = grind (arith, elements)
