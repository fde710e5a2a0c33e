use Rattle.std.proofs.Common.{ap, subst}
use Rattle.std.specs.Option.{option_map}
use Rattle.restart_epochs.specs.ChannelTables.{HasTaken}
use Rattle.live_report.specs.Effects.{epoch_of}
use Rattle.live_report.proofs.OpenChannelLemmas.{on_both, out_none}
use Rattle.live_report.proofs.open_channels.OpenChannels.take_out.Goals as goal

pub returns-clause-out : goal.returns-clause-out
returns-clause-out g c rows f pieces =
    let taken = subst (λ o. HasTaken c.args.channel o c.args.self.now.table c.take.new.self) (ap (λ o. option_map (λ b. b.value) o) c.in_default.is) c.take.ensures in
    on_both c.begin.result c.begin.ensures.fresh c.begin.ensures.listed
    (λ entry fresh listed. out_none g.C.Channel.interface_of g.C.Channel.number_of g.C.Channel.represents (epoch_of c.args.walk.now) c.args.channel rows c.args.self.now.table c.take.new.self c.begin.new.self.table entry.value f taken listed fresh)

pub returns-clause-gap : goal.returns-clause-gap
returns-clause-gap g c = c.begin.ensures.gap

pub returns-clause-memory : goal.returns-clause-memory
returns-clause-memory g c = c.begin.ensures.memory
