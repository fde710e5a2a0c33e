use Rattle.std.proofs.Common.{◌∙◌, ap, sym}
use Rattle.std.specs.Prelude.{unwrap_or}
use Rattle.line_model.specs.basics.Records.{Item}
use Rattle.line_model.specs.channels.ChannelStep.{channel_step, counting, counts_of}
use Rattle.line_model.specs.channels.FlowControl.{count_receive}
use Rattle.line_model.specs.declared.state.StateName.TheVariants.{D1}
use Rattle.channel_machine.proofs.CommonRows.{fine_ready}
use Rattle.channel_machine.proofs.Taking.{judged_as}
use Rattle.channel_machine.proofs.channel.StatusChannel.judge_ready.Goals as goal

pub returns-clause-judged : goal.returns-clause-judged
returns-clause-judged g c k s =
    let old = c.args.self.now in
    let i = old.terms.interface in
    let r : Item = c.args.item.now in
    let x = c.item.inside.side in
    let side = ap (λ (u : Item). u.side) c.item.view_is in
    judged_as c.accept_ready.result old c.accept_ready.new.self x r.side D1 k (counting x D1 (count_receive i.modulus (counts_of k) x c.args.receive) k) (channel_step i old.channel k r) side
    ((λ j. counting (side j) D1 (count_receive i.modulus (counts_of k) (side j) (unwrap_or (sym c.requires.receive j) 0)) k)
    ∙ fine_ready i old.channel k r old c.requires.in_d1 s c.requires.class c.requires.whole)
    (c.accept_ready.ensures.judged k D1 s)
