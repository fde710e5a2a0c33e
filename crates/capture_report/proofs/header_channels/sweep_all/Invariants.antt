-- The channels so far are changed.
use Rattle.std.proofs.Common.{◌≡◌, ◌++◌, drop, map, take}
use Rattle.capture_report.specs.HeaderChannels.{swept}
use Rattle.capture_report.proofs.header_channels.sweep_all.Given as goal

abbrev pub invariant-loop-channel : goal.invariant-loop-channel
invariant-loop-channel l = l.channel-items ≡ map (swept l.sweep) (take l.channel-index l.fn.channels.items) ++ drop l.channel-index l.fn.channels.items
