use Rattle.std.proofs.Common.{◌∙◌, ap, sym, Some, ◌<◌, ◌≤◌, length, rules}
use Rattle.std.specs.Option.{option_map}
use Rattle.restart_epochs.specs.ChannelTables.{value_at}
use Rattle.restart_epochs.proofs.ChannelRowsLemmas.{open-get, open-past}
use Rattle.restart_epochs.proofs.channel_table.ChannelTable.get.Goals as goal
use Rattle.restart_epochs.proofs.channel_table.ChannelTable.get.Goals.{then-channel-len+in_default, else-channel-len}

pub returns-in-Some : goal.returns-in-Some
returns-in-Some g c =
    let lt : c.args.channel < length c.self.inside.open_channels.items = search rules in
    ap Some c.deref.ensures ∙ sym (ap (λ o. option_map (λ b. b.value) o) c.in-Some.is) ∙ ap (λ o. option_map (λ b. b.value) o) c.index.ensures
    ∙ sym (open-get (λ o. option_map (λ b. b.value) o) c.self.inside.open_channels.items c.args.channel _ lt) ∙ ap (λ o. value_at o c.args.channel) c.self.view_is

pub returns : goal.returns
returns g c =
    elim c.if-channel-len.branch [
      | then-channel-len+in_default w ↦
          let lt : c.args.channel < length c.self.inside.open_channels.items = search rules in
          sym (ap (λ o. option_map (λ b. b.value) o) w.in_default.is) ∙ ap (λ o. option_map (λ b. b.value) o) w.index.ensures
          ∙ sym (open-get (λ o. option_map (λ b. b.value) o) c.self.inside.open_channels.items c.args.channel _ lt) ∙ ap (λ o. value_at o c.args.channel) c.self.view_is
      | else-channel-len w ↦
          let le : length c.self.inside.open_channels.items ≤ c.args.channel = search rules in
          sym (open-past (λ o. option_map (λ b. b.value) o) c.self.inside.open_channels.items c.args.channel le) ∙ ap (λ o. value_at o c.args.channel) c.self.view_is
    ]
