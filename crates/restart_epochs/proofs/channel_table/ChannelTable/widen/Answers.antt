use Rattle.std.proofs.lemmas.Result.{IfOk-from_err}
use Rattle.std.proofs.Common.{◌∙◌, ap, refl, map, None, subst, ◌<◌}
use Rattle.std.specs.Option.{option_map}
use Rattle.restart_epochs.specs.ChannelTables.{open_channel_at}
use Rattle.restart_epochs.proofs.ChannelRowsLemmas.{open-empty, open-wide}
use Rattle.restart_epochs.proofs.channel_table.ChannelTable.widen.Goals as goal

pub loop-self-preserved : goal.loop-self-preserved
loop-self-preserved g c = record {
  values = λ k. ap (λ open_channels. open_channel_at (map (λ o. option_map (λ b. b.value) o) open_channels) k) c.in_ok-push.ensures.items
      ∙ open-empty (λ o. option_map (λ b. b.value) o) c.loop-self.self-inside.open_channels.items None k refl ∙ c.loop-self.invariant.values k;
  channels = c.loop-self.invariant.channels;
}

pub returns-in_err-push-clause-wide : goal.returns-in_err-push-clause-wide
returns-in_err-push-clause-wide g c = IfOk-from_err _ _ c.from_residual.ensures.0

pub returns-clause-wide : goal.returns-clause-wide
returns-clause-wide g c =
    open-wide (λ o. option_map (λ b. b.value) o) c.loop-self.self-inside.open_channels.items c.args.channel (subst (λ n. c.args.channel < n) (c.len.ensures ∙ c.loop-self.self-inside.open_channels.ok.0) c.loop-self-test.false)
