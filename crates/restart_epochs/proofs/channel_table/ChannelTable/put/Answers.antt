use Rattle.std.proofs.Common.{◌∙◌, ap, sym, subst, Some, ◌<◌, length}
use Rattle.std.specs.Option.{option_map}
use Rattle.restart_epochs.specs.ChannelTables.{value_at}
use Rattle.restart_epochs.proofs.ChannelRowsLemmas.{open-set, open-other, open-inside}
use Rattle.restart_epochs.proofs.channel_table.ChannelTable.put.Goals as goal

pub returns : goal.returns
returns g c =
    let lt = open-inside (λ o. option_map (λ b. b.value) o) c.self.inside.open_channels.items c.args.channel (subst (λ o. c.args.channel < length o.open_channels) (sym c.self.view_is) c.requires) in
    record {
      value = open-set (λ o. option_map (λ b. b.value) o) c.self.inside.open_channels.items c.args.channel (Some c.args.value) lt;
      others = λ k ne. open-other (λ o. option_map (λ b. b.value) o) c.self.inside.open_channels.items c.args.channel k (Some c.args.value) ne ∙ ap (λ o. value_at o k) c.self.view_is;
      channels = ap (λ o. o.channels) c.self.view_is;
    }
