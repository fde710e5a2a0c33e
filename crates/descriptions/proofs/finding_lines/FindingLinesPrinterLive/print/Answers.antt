use Rattle.std.proofs.Common.{◌++◌, ◌∷◌, [], subst, sym}
use Rattle.descriptions.specs.Follows.{KeepsOrigins}
use Rattle.descriptions.proofs.ChoiceLemmas.{both_ok, head_is, rows_more, rows_same, unwritten_by}
use Rattle.line_model.specs.packets.Says.{items_of}
use Rattle.line_model.specs.text.Text.{head_of, rows_in}
use Rattle.annotated_trace.specs.Rows.{row_written}
use Rattle.descriptions.proofs.FindingLemmas.{nothing_printed, row_printed}
use Rattle.descriptions.proofs.LineLemmas.{on_any}
use Rattle.descriptions.proofs.finding_lines.FindingLinesPrinterLive.print.Goals as goal

pub returns-in-Some-clause-form : goal.returns-in-Some-clause-form
returns-in-Some-clause-form g c before line text printed represented lines found is =
    row_printed c.append_row.result c.args.self.now.chosen.rows (head_of before) (rows_in before) (row_written before line) c.in-Some.picked c.args.out.now.items c.append_row.new.out.items
    (c.in-Some.ensures.picked before line text printed.0 represented lines) c.append_row.ensures.unpicked (λ i r head row. c.append_row.ensures.form i before line r text represented lines head row is (printed.1 i (head_is (head_of before) i head)))

pub returns-in-None-clause-form : goal.returns-in-None-clause-form
returns-in-None-clause-form g c before line text printed represented lines found is =
    on_any c.take_comment.result (nothing_printed c.args.self.now.chosen.rows (head_of before) (rows_in before) (row_written before line) c.args.out.now.items (c.in-None.ensures.picked before line text printed.0 represented lines))

pub returns-in-None-clause-printed : goal.returns-in-None-clause-printed
returns-in-None-clause-printed g c before line text printed represented lines found is =
    on_any c.take_comment.result (c.in-None.ensures.chosen before line text printed.0 represented lines, rows_same (λ i rs. KeepsOrigins i rs c.take_comment.new.self.origins) before line (λ i head. subst (KeepsOrigins i (items_of i (rows_in before))) (sym c.take_comment.ensures) (printed.1 i head)) (unwritten_by c.args.self.now.chosen.rows (head_of before) (rows_in before) (row_written before line) (c.in-None.ensures.picked before line text printed.0 represented lines)))

pub returns-in-Some-clause-printed : goal.returns-in-Some-clause-printed
returns-in-Some-clause-printed g c before line text printed represented lines found is =
    both_ok _ c.append_row.result (c.in-Some.ensures.chosen before line text printed.0 represented lines)
    (rows_more (λ i rs. KeepsOrigins i rs c.args.self.now.past.origins) (λ i rs. KeepsOrigins i rs c.append_row.new.self.origins) c.append_row.result c.args.self.now.chosen.rows before line c.in-Some.picked (c.in-Some.ensures.picked before line text printed.0 represented lines)
    (c.in-Some.ensures.headed before line text printed.0 represented lines) printed.1 (λ i r head row kept. c.append_row.ensures.kept i before line r text represented lines head row is kept))
