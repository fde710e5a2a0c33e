use Rattle.std.proofs.Common.{◌+◌, ◌-◌, length, map}
use Rattle.std.specs.Option.{option_map}
use Rattle.restart_epochs.specs.ChannelTables.{IsAlike}
use Rattle.restart_epochs.proofs.channel_table.ChannelTable.widen.Given as goal

abbrev pub invariant-loop-self : goal.invariant-loop-self
invariant-loop-self g l = IsAlike l.fn.self (record { open_channels = map (λ o. option_map (λ b. b.value) o) l.self-inside.open_channels.items; channels = l.self-inside.channels.keys })

abbrev pub decreases-loop-self : goal.decreases-loop-self
decreases-loop-self g l = l.channel + 1 - length l.self-inside.open_channels.items
