use Rattle.std.proofs.Common.{subst, ap}
use Rattle.std.specs.Prelude.{IfOk}
use Rattle.line_model.specs.basics.Records.{Item}
use Rattle.line_model.specs.channels.ChannelStep.{failing}
use Rattle.line_model.specs.declared.state.StateName.TheVariants.{D1}
use Rattle.channel_machine.specs.Channels.{Does}
use Rattle.channel_machine.proofs.Taking.{listed_apart}
use Rattle.channel_machine.proofs.channel.StatusChannel.refuse.Goals as goal

pub returns-clause-does : goal.returns-clause-does
returns-clause-does g c k s =
    let r : Item = c.args.item.now in
    let p = c.args.self.now in
    let es = c.args.events.now.items in
    listed_apart c.fail.result c.listed.result _ r.side p c.fail.new.self es c.fail.new.events.items (failing r.side D1 c.args.code k) c.listed.ensures
    (subst (λ e. IfOk c.fail.result (λ _. Does e p c.fail.new.self es c.fail.new.events.items (failing r.side D1 c.args.code k))) c.origin.ensures
    (subst (λ x. IfOk c.fail.result (λ _. Does c.origin.result p c.fail.new.self es c.fail.new.events.items (failing x D1 c.args.code k))) (ap (λ (u : Item). u.side) c.item.view_is)
    (c.fail.ensures.does k s)))
