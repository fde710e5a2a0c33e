use Rattle.std.proofs.Common.{rules}
use Rattle.restart_epochs.proofs.ListedRows.{others_above}
use Rattle.restart_epochs.proofs.channel_table.ChannelTable.pop_first.Goals as goal

pub returns : goal.returns
returns g c =
    let above = others_above c.in_ok-channel.channel c.pop_first.new.self.keys c.in_ok-channel.ensures.all_above in
    search (rules, above)
