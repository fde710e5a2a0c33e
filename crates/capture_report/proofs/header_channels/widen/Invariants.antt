-- What the list lacks is the same.
use Rattle.std.proofs.Common.{◌≡◌, ◌+◌, ◌-◌, length}
use Rattle.capture_report.specs.HeaderChannels.{widened}
use Rattle.capture_report.proofs.header_channels.widen.Given as goal

abbrev pub invariant-loop-rest : goal.invariant-loop-rest
invariant-loop-rest l = widened l.channel l.rest l.channels.items ≡ widened l.channel l.rest l.fn.channels.items

abbrev pub decreases-loop-rest : goal.decreases-loop-rest
decreases-loop-rest l = l.channel + 1 - length l.channels.items
