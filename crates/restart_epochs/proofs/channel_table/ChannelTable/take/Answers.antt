use Rattle.std.proofs.Common.{◌∙◌, ap, sym, refl, true≢false, ◌<◌, ◌≤◌, length, rules}
use Rattle.std.specs.Option.{option_map}
use Rattle.restart_epochs.specs.ChannelTables.{value_at}
use Rattle.restart_epochs.proofs.ChannelRowsLemmas.{open-get, open-past, open-set, open-other, open-room}
use Rattle.restart_epochs.proofs.channel_table.ChannelTable.take.Goals as goal

pub returns-then-channel-len : goal.returns-then-channel-len
returns-then-channel-len g c =
    let lt : c.args.channel < length c.self.inside.open_channels.items = search rules in
    record {
      value = ap (λ o. option_map (λ b. b.value) o) (c.replace.ensures.value ∙ c.index_mut.ensures.value)
          ∙ sym (open-get (λ o. option_map (λ b. b.value) o) c.self.inside.open_channels.items c.args.channel _ lt) ∙ ap (λ o. value_at o c.args.channel) c.self.view_is;
      emptied = open-set (λ o. option_map (λ b. b.value) o) c.self.inside.open_channels.items c.args.channel c.replace.new.dest lt ∙ ap (λ o. option_map (λ b. b.value) o) c.replace.ensures.after;
      others = λ k ne. open-other (λ o. option_map (λ b. b.value) o) c.self.inside.open_channels.items c.args.channel k c.replace.new.dest ne ∙ ap (λ o. value_at o k) c.self.view_is;
      channels = ap (λ o. o.channels) c.self.view_is;
      room = λ h. open-room (λ o. option_map (λ b. b.value) o) c.self.inside.open_channels.items c.args.channel c.replace.new.dest lt;
    }

pub returns : goal.returns
returns g c =
    let le : length c.self.inside.open_channels.items ≤ c.args.channel = search rules in
    let none = sym (ap (λ o. value_at o c.args.channel) c.self.view_is) ∙ open-past (λ o. option_map (λ b. b.value) o) c.self.inside.open_channels.items c.args.channel le in
    record {
      value = sym none;
      emptied = none;
      others = λ k ne. refl;
      channels = refl;
      room = λ h. absurd (true≢false (sym h));
    }
