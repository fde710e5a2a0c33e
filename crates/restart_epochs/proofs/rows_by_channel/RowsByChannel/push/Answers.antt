use Rattle.std.proofs.Common.{◌∙◌, ap, sym, subst, rules, [], ◌∷◌, ◌++◌, ◌==◌, length}
use Rattle.std.specs.Option.{option_map}
use Rattle.std.specs.Prelude.{OnOk}
use Rattle.std.proofs.lemmas.Result.{on_ok_weaker}
use Rattle.restart_epochs.specs.ChannelTables.{HasPut, HasTaken}
use Rattle.restart_epochs.specs.OpenRows.{with_gap, HasMore}
use Rattle.restart_epochs.proofs.FirstRows.{more_same, none_taken, row_put}
use Rattle.restart_epochs.proofs.ListedRows.{others_more}
use Rattle.restart_epochs.proofs.rows_by_channel.RowsByChannel.push.Goals as goal

pub invariant_of-self-2 : goal.invariant_of-self-2
invariant_of-self-2 g c =
    let more : HasMore c.args.gap c.args.channel c.args.item.now c.self.inside.table c.put.new.self = search rules in
    others_more c.args.gap c.args.channel c.args.item.now c.self.inside.table c.put.new.self more c.self.invariant

pub returns : goal.returns
returns g c =
    let channel = c.args.channel in
    let table = c.self.inside.table in
    let taken = c.take.new.self in
    let some = ap (λ l. length l == 0) (sym c.deref.ensures) ∙ sym c.is_empty.ensures ∙ c.if-is_empty.false in
    subst (λ o. HasMore c.args.gap channel c.args.item.now o c.put.new.self) c.self.view_is
    (row_put c.args.gap channel c.args.item.now c.in-Some.list.value table taken c.put.new.self
    (subst (λ o. HasTaken channel (option_map (λ b. b.value) o) table taken) c.in-Some.is c.take.ensures) some
    (subst (λ l. HasPut channel l taken c.put.new.self) (c.in_ok-push.ensures ∙ ap (λ l. with_gap c.args.gap l ++ c.args.item.now ∷ []) c.deref_mut.ensures.value) c.put.ensures))

pub returns-in_default : goal.returns-in_default
returns-in_default g c =
    let channel = c.args.channel in
    let item = c.args.item.now in
    let table = c.self.inside.table in
    subst (λ o. OnOk c.push_first.result (HasMore c.args.gap channel item o c.push_first.new.self)) c.self.view_is
    (on_ok_weaker c.push_first.result (more_same c.args.gap channel item table c.take.new.self c.push_first.new.self
    (none_taken channel table c.take.new.self (subst (λ o. HasTaken channel (option_map (λ b. b.value) o) table c.take.new.self) c.in_default.is c.take.ensures))) c.push_first.ensures)
