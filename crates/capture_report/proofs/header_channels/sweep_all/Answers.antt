use Rattle.std.proofs.Common.{◌∙◌, ◌<◌, ap, length, rules, set}
use Rattle.std.proofs.lemmas.List.Edits.{map_over_more}
use Rattle.capture_report.specs.HeaderChannels.{swept}
use Rattle.capture_report.proofs.header_channels.sweep_all.Goals as goal

pub loop-channel-preserved : goal.loop-channel-preserved
loop-channel-preserved c =
    let lt : c.loop-channel.channel-index < length c.args.channels.now.items = search rules in
    ap (set c.loop-channel.channel-items c.loop-channel.channel-index) c.swept.ensures
    ∙ map_over_more (swept c.args.sweep) c.args.channels.now.items c.loop-channel.channel-items c.loop-channel.channel-index _ lt c.loop-channel.invariant (search rules)
