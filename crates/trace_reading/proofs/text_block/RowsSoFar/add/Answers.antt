use Rattle.std.proofs.Common.{◌∙◌, ap, cond}
use Rattle.line_model.specs.packets.Says.{items_of}
use Rattle.restart_epochs.proofs.Taken.{on_ok}
use Rattle.trace_reading.proofs.BlockReads.{row_added}
use Rattle.trace_reading.proofs.text_block.RowsSoFar.add.Goals as goal

pub returns-clause-added : goal.returns-clause-added
returns-clause-added g c l rows next are is =
    on_ok c.push.result _ _ (c.push.ensures l (items_of c.args.self.now.interface rows) are.cut)
    (row_added l rows c.args.self.now next c.args.row.now c.first_with-self.result c.push.new.self c.item_of_row-item.result are is (c.first_with-self.ensures ∙ ap (λ v. cond c.args.self.now.is_empty v.number c.args.self.now.first) c.row.view_is) c.item_of_row-item.ensures.item)
