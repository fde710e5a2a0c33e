use Rattle.std.proofs.Common.{◌∙◌, ap, subst}
use Rattle.std.specs.Prelude.{OnOk}
use Rattle.restart_epochs.specs.BlockCuts.{ChannelRows, HasAll}
use Rattle.std.proofs.lemmas.Result.{on_ok_weaker}
use Rattle.restart_epochs.specs.OpenRows.{with_part}
use Rattle.restart_epochs.proofs.FirstRows.{first_part}
use Rattle.restart_epochs.proofs.kept_rows.keep_part.Goals as goal

pub returns-in_default : goal.returns-in_default
returns-in_default g c =
    let items = c.args.part.items in
    subst (λ (p : ChannelRows). OnOk c.keep_first.result (HasAll c.args.gap p.channel items c.args.table.now c.keep_first.new.table)) c.part.view_is
    (on_ok_weaker c.keep_first.result (first_part c.args.gap c.part.inside.channel items c.add.new.self c.args.table.now c.take_rows.new.table c.keep_first.new.table c.in_default.ensures.0 c.in_default.ensures.1
    (c.in_ok-add.ensures ∙ ap (λ l. with_part c.args.gap l items) c.new-first.ensures)) c.keep_first.ensures.ok)
