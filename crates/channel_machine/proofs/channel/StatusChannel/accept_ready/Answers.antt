use Rattle.std.proofs.Common.{ap}
use Rattle.line_model.specs.channels.FlowControl.{count_receive}
use Rattle.line_model.specs.channels.ChannelStep.{counts_of}
use Rattle.channel_machine.specs.Channels.{Known, known}
use Rattle.channel_machine.proofs.Counting.{received}
use Rattle.channel_machine.proofs.Taking.{judged_counts}
use Rattle.channel_machine.proofs.channel.StatusChannel.accept_ready.Goals as goal

pub returns-clause-judged : goal.returns-clause-judged
returns-clause-judged g c k q s =
    let i = c.self.inside in
    let old : Known = known i.channel (g.S.StatusStore.status i.status) i.assembler i.settings in
    let after = g.S.StatusStore.status c.ack.new.self in
    judged_counts c.ack.result old c.args.self.now (known i.channel after i.assembler i.settings) after.flow c.args.side q
    (λ i. count_receive i.modulus (counts_of k) c.args.side c.args.receive) k c.self.view_is (ap (λ t. known i.channel t i.assembler i.settings) c.ack.ensures.rest.rest) s
    (λ st. received c.ack.result old.terms.interface old.transfer after.flow c.args.side c.args.receive k st c.ack.ensures.rest.modulus c.ack.ensures.rest.windows (c.ack.ensures.counts (counts_of k) st.flow))
