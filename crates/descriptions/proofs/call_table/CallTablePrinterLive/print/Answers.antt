use Rattle.std.proofs.Common.{◌++◌, ◌∷◌, [], refl, subst, sym}
use Rattle.line_model.specs.text.Text.{head_of, rows_in}
use Rattle.annotated_trace.specs.Rows.{row_written}
use Rattle.descriptions.specs.CallSums.{KeepsSums}
use Rattle.descriptions.specs.Choosing.{HasChosen}
use Rattle.descriptions.specs.Circuits.{KeepsHosts}
use Rattle.descriptions.specs.RowObjects.{OfRows}
use Rattle.descriptions.proofs.ChoiceLemmas.{last_ok, middle_ok, rows_more, unwritten_by, written_by}
use Rattle.descriptions.proofs.CallSumLemmas.{table_same}
use Rattle.descriptions.proofs.CircuitLemmas.{hosts_kept, hosts_same}
use Rattle.descriptions.proofs.call_table.CallTablePrinterLive.print.Goals as goal

pub returns-in-Some-clause-printed : goal.returns-in-Some-clause-printed
returns-in-Some-clause-printed g c before line text printed represented lines found is =
    let picks = c.in-Some.ensures.picked before line text printed.0 represented lines in
    let row = written_by c.args.self.now.chosen.rows (head_of before) (rows_in before) (row_written before line) c.in-Some.field-0 picks in
    middle_ok (OfRows (before ++ line ∷ []) (λ i rs. KeepsSums i rs c.take_row.new.self)) c.take_row.result (subst (λ chosen. HasChosen (before ++ line ∷ []) chosen) (sym c.take_row.ensures.chosen) (c.in-Some.ensures.chosen before line text printed.0 represented lines))
    (rows_more (λ i rs. KeepsSums i rs c.args.self.now) (λ i rs. KeepsSums i rs c.take_row.new.self) c.take_row.result c.args.self.now.chosen.rows before line c.in-Some.field-0 picks
    (c.in-Some.ensures.headed before line text printed.0 represented lines) printed.1 (λ i r head row kept. c.take_row.ensures.kept i before line r text represented lines head row is (record { origins = kept.origins; findings = kept.findings; segments = kept.segments })))
    (hosts_same before line row.0 c.args.self.now.past.circuits c.take_row.new.self.past.circuits row.1 c.take_row.ensures.circuits printed.2)

pub returns-in-None-clause-printed : goal.returns-in-None-clause-printed
returns-in-None-clause-printed g c before line text printed represented lines found is =
    let none = unwritten_by c.args.self.now.chosen.rows (head_of before) (rows_in before) (row_written before line) (c.in-None.ensures.picked before line text printed.0 represented lines) in
    last_ok (KeepsHosts (before ++ line ∷ []) c.take_comment.new.self.past.circuits) c.take_comment.result
    (subst (λ chosen. HasChosen (before ++ line ∷ []) chosen) (sym c.take_comment.ensures.chosen) (c.in-None.ensures.chosen before line text printed.0 represented lines))
    (table_same before line c.args.self.now c.take_comment.new.self c.take_comment.ensures.origins c.take_comment.ensures.findings c.take_comment.ensures.segments printed.1 none)
    (hosts_kept c.take_comment.result before line c.args.self.now.past.circuits c.take_comment.new.self.past.circuits printed.2 (c.take_comment.ensures.hosts line is))
