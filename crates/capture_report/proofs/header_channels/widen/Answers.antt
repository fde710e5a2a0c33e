use Rattle.std.proofs.Common.{◌∙◌, ◌≤◌, ap, length, rules}
use Rattle.capture_report.specs.HeaderChannels.{widened}
use Rattle.capture_report.proofs.HeaderLemmas.{widened_more}
use Rattle.capture_report.proofs.header_channels.widen.Goals as goal

pub loop-rest-preserved : goal.loop-rest-preserved
loop-rest-preserved c =
    let few : length c.loop-rest.channels.items ≤ c.args.channel = search rules in
    ap (widened c.args.channel c.args.rest) c.in_ok-push.ensures.items ∙ widened_more c.args.channel c.args.rest c.loop-rest.channels.items few ∙ c.loop-rest.invariant
