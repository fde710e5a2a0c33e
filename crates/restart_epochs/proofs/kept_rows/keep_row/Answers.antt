use Rattle.std.proofs.Common.{◌∙◌, ap, [], ◌∷◌, ◌++◌, arith}
use Rattle.std.proofs.lemmas.Grind.{elements}
use Rattle.std.proofs.lemmas.Result.{on_ok_weaker}
use Rattle.restart_epochs.specs.OpenRows.{with_gap}
use Rattle.restart_epochs.proofs.FirstRows.{first_row}
use Rattle.restart_epochs.proofs.kept_rows.keep_row.Goals as goal

pub returns-in_default-clause-ok : goal.returns-in_default-clause-ok
returns-in_default-clause-ok g c =
    on_ok_weaker c.keep_first.result (first_row c.args.gap c.args.channel c.args.item.now c.push.new.self c.args.table.now c.take_rows.new.table c.keep_first.new.table c.in_default.ensures.0 c.in_default.ensures.1
    (c.in_ok-push.ensures.ok ∙ ap (λ l. with_gap c.args.gap l ++ c.args.item.now ∷ []) c.new-first.ensures)) c.keep_first.ensures.ok

pub returns-in_default-clause-refused : goal.returns-in_default-clause-refused
returns-in_default-clause-refused g c = grind (arith, elements)
