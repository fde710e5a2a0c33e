use Rattle.std.specs.Prelude.{IfOk}
use Rattle.line_model.specs.channels.ChannelStep.{channel_step, failing}
use Rattle.line_model.specs.declared.state.StateName.TheVariants.{D1}
use Rattle.channel_machine.specs.Channels.{DoesApart}
use Rattle.channel_machine.specs.Events.{origin_at}
use Rattle.channel_machine.proofs.Taking.{passes_apart, refusing}
use Rattle.channel_machine.proofs.channel.StatusChannel.handle_unqualified.Goals as goal

pub returns-in-Ok-clause-does : goal.returns-in-Ok-clause-does
returns-in-Ok-clause-does g c k s =
    let old = c.args.self.now in
    let r = c.args.item.now in
    passes_apart (origin_at c.args.epoch old.channel r) old c.judge_unqualified.new.self c.args.events.now.items r.side _ (channel_step old.terms.interface old.channel k r)
    (c.in-Ok.ensures.judged k s)

pub returns-in-Err-clause-does : goal.returns-in-Err-clause-does
returns-in-Err-clause-does g c k s =
    let old = c.args.self.now in
    let r = c.args.item.now in
    refusing (λ u o. IfOk c.refuse.result (λ a. DoesApart (origin_at c.args.epoch u.channel r) r.side u c.refuse.new.self c.args.events.now.items c.refuse.new.events.items a o))
    old c.judge_unqualified.new.self k (failing r.side D1 c.in-Err.code) (channel_step old.terms.interface old.channel k r)
    (c.in-Err.ensures.judged k s) s c.refuse.ensures.does
