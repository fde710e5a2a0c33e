-- None of the channels that were passed was used.
use Rattle.std.proofs.Common.{◌≡◌}
use Rattle.capture_report.specs.HeaderChannels.{last_below}
use Rattle.capture_report.proofs.header_channels.Channels.last_below.Given as goal

abbrev pub invariant-loop-left : goal.invariant-loop-left
invariant-loop-left l = last_below l.self l.left ≡ last_below l.self l.bound

abbrev pub decreases-loop-left : goal.decreases-loop-left
decreases-loop-left l = l.left
