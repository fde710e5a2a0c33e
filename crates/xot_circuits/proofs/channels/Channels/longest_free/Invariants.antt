-- What is left gives what all channels give.
use Rattle.std.proofs.Common.{◌≡◌, ◌+◌, ◌-◌, None}
use Rattle.std.specs.List.{range_with_len}
use Rattle.xot_circuits.specs.Plans.{longest_of}
use Rattle.xot_circuits.proofs.channels.Channels.longest_free.Given as goal

abbrev pub invariant-loop-channel : goal.invariant-loop-channel
invariant-loop-channel l =
    longest_of l.self l.purpose l.row l.best (range_with_len l.channel (l.self.interface.svc + 1 - l.channel))
    ≡ longest_of l.self l.purpose l.row None (range_with_len 1 l.self.interface.svc)
