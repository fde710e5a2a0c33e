use Rattle.std.proofs.Common.{◌∙◌, ap, sym, subst, ◌<◌, length}
use Rattle.std.specs.BTreeSet.{insert_key}
use Rattle.std.specs.Ordering.{nat_cmp}
use Rattle.restart_epochs.specs.ChannelTables.{value_at}
use Rattle.std.proofs.lemmas.Result.{IfOk-from_err}
use Rattle.restart_epochs.proofs.channel_table.ChannelTable.list.Goals as goal

pub returns-in_err-widen-clause-ok : goal.returns-in_err-widen-clause-ok
returns-in_err-widen-clause-ok g c = IfOk-from_err _ _ c.from_residual.ensures.0

pub returns-in_err-insert-clause-ok : goal.returns-in_err-insert-clause-ok
returns-in_err-insert-clause-ok g c = IfOk-from_err _ _ c.from_residual-in_err-insert.ensures.0

pub returns-clause-ok : goal.returns-clause-ok
returns-clause-ok g c =
    let alike = c.widen.ensures.alike in
    record {
      channels = c.in_ok-insert.ensures.keys ∙ ap (λ o. insert_key nat_cmp o.channels c.args.channel) c.self.view_is ∙ ap (λ ks. insert_key nat_cmp ks c.args.channel) alike.channels;
      values = λ k. ap (λ o. value_at o k) c.self.view_is ∙ alike.values k;
      room = subst (λ o. c.args.channel < length o.open_channels) (sym c.self.view_is) c.in_ok-widen.ensures.wide;
    }
