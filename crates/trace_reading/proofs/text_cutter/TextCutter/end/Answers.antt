use Rattle.std.proofs.Common.{◌∙◌, Some, ap, subst, sym}
use Rattle.line_model.specs.packets.Says.{items_of}
use Rattle.std.proofs.lemmas.Result.{IfOk-from_err}
use Rattle.line_model.specs.text.Text.{early_rows, fault, rows}
use Rattle.trace_text.proofs.SourceLemmas.{passed_on}
use Rattle.trace_reading.proofs.Texts.{memory_fault}
use Rattle.restart_epochs.specs.Cutting.{given_of}
use Rattle.live_report.specs.Observing.{AreItems}
use Rattle.live_report.proofs.ReportLemmas.{whole_trace}
use Rattle.trace_reading.specs.TextCuts.{HasCut, given_in}
use Rattle.trace_reading.proofs.Firsts.{appended_as, known_with}
use Rattle.trace_reading.proofs.Rows.{last_said}
use Rattle.trace_reading.proofs.text_cutter.TextCutter.end.Goals as goal
use Rattle.trace_text.proofs.RefusalLemmas.{whole_head}

pub cut_last-requires : goal.cut_last-requires
cut_last-requires g c =
    let text = c.requires.0 in
    let taken = c.requires.1 in
    let end = c.in_ok-end.ensures.ok text taken.reads in
    let same = whole_head c.args.self.lines text c.in_ok-end.end.interface taken.reads end.1 in
    let i = c.row_cutter_of-row_cutter.result.interface in
    let header = c.row_cutter_of-row_cutter.ensures.interface (early_rows text) c.args.self.lines.interface taken.cut same in
    let row = c.in_ok-end.ensures.row text taken.reads in
    let all = ap (items_of i) row.1 ∙ last_said i c.in_ok-end.end.has_row (early_rows text) row.0 c.end_row.new.row row.2 in
    record {
      next = (
        items_of i (early_rows text),
        subst (λ j. HasCut (items_of j (early_rows text)) c.row_cutter_of-row_cutter.result) (sym header) (c.row_cutter_of-row_cutter.ensures.cut (early_rows text) c.args.self.lines.interface taken.cut same),
        subst (AreItems i) all (whole_trace i text end.0 (end.1 ∙ ap Some (sym header))),
      );
    }

pub returns-clause-sound : goal.returns-clause-sound
returns-clause-sound g c text taken =
    let end = c.in_ok-end.ensures.ok text taken.reads in
    let same = whole_head c.args.self.lines text c.in_ok-end.end.interface taken.reads end.1 in
    (end.0, end.1 ∙ ap Some (sym (c.in_ok-cut_last.ensures.interface ∙ c.row_cutter_of-row_cutter.ensures.interface (early_rows text) c.args.self.lines.interface taken.cut same)))

pub returns-clause-cut : goal.returns-clause-cut
returns-clause-cut g c text taken =
    let end = c.in_ok-end.ensures.ok text taken.reads in
    let same = whole_head c.args.self.lines text c.in_ok-end.end.interface taken.reads end.1 in
    let i = c.row_cutter_of-row_cutter.result.interface in
    let header = c.row_cutter_of-row_cutter.ensures.interface (early_rows text) c.args.self.lines.interface taken.cut same in
    let row = c.in_ok-end.ensures.row text taken.reads in
    let all = ap (items_of i) row.1 ∙ last_said i c.in_ok-end.end.has_row (early_rows text) row.0 c.end_row.new.row row.2 in
    let before = subst (λ j. HasCut (items_of j (early_rows text)) c.row_cutter_of-row_cutter.result) (sym header) (c.row_cutter_of-row_cutter.ensures.cut (early_rows text) c.args.self.lines.interface taken.cut same) in
    subst (λ j. HasCut (items_of j (rows text)) c.cut_last.new.self) (sym c.in_ok-cut_last.ensures.interface)
    (subst (λ items. HasCut items c.cut_last.new.self) (sym all) (c.in_ok-cut_last.ensures.cut (items_of i (early_rows text)) before))

pub returns-clause-pieces : goal.returns-clause-pieces
returns-clause-pieces g c text taken =
    let end = c.in_ok-end.ensures.ok text taken.reads in
    let same = whole_head c.args.self.lines text c.in_ok-end.end.interface taken.reads end.1 in
    let i = c.row_cutter_of-row_cutter.result.interface in
    let header = c.row_cutter_of-row_cutter.ensures.interface (early_rows text) c.args.self.lines.interface taken.cut same in
    let row = c.in_ok-end.ensures.row text taken.reads in
    let all = ap (items_of i) row.1 ∙ last_said i c.in_ok-end.end.has_row (early_rows text) row.0 c.end_row.new.row row.2 in
    let before = subst (λ j. HasCut (items_of j (early_rows text)) c.row_cutter_of-row_cutter.result) (sym header) (c.row_cutter_of-row_cutter.ensures.cut (early_rows text) c.args.self.lines.interface taken.cut same) in
    appended_as c.args.pieces.now.items c.cut_last.new.pieces.items _ _ _ _
    (known_with c.args.self.lines text c.in_ok-end.end.interface taken.reads same ∙ ap (λ x. given_in x text) (sym header))
    (ap (λ x. given_of x (items_of x (rows text))) c.in_ok-cut_last.ensures.interface ∙ ap (given_of i) all)
    (c.in_ok-cut_last.ensures.pieces (items_of i (early_rows text)) before)

pub returns-in_err-end-clause-sound : goal.returns-in_err-end-clause-sound
returns-in_err-end-clause-sound g c text taken = IfOk-from_err _ _ c.from_residual.ensures.0

pub returns-in_err-end-clause-cut : goal.returns-in_err-end-clause-cut
returns-in_err-end-clause-cut g c text taken = IfOk-from_err _ _ c.from_residual.ensures.0

pub returns-in_err-end-clause-pieces : goal.returns-in_err-end-clause-pieces
returns-in_err-end-clause-pieces g c text taken = IfOk-from_err _ _ c.from_residual.ensures.0

pub returns-in_err-cut_last-clause-sound : goal.returns-in_err-cut_last-clause-sound
returns-in_err-cut_last-clause-sound g c text taken = IfOk-from_err _ _ c.from_residual-in_err-cut_last.ensures.0

pub returns-in_err-cut_last-clause-cut : goal.returns-in_err-cut_last-clause-cut
returns-in_err-cut_last-clause-cut g c text taken = IfOk-from_err _ _ c.from_residual-in_err-cut_last.ensures.0

pub returns-in_err-cut_last-clause-pieces : goal.returns-in_err-cut_last-clause-pieces
returns-in_err-cut_last-clause-pieces g c text taken = IfOk-from_err _ _ c.from_residual-in_err-cut_last.ensures.0

pub returns-in_err-cut_last-clause-refused : goal.returns-in_err-cut_last-clause-refused
returns-in_err-cut_last-clause-refused g c text taken = passed_on c.from_residual-in_err-cut_last.result c.in_err-cut_last.field-0.0 _ c.from_residual-in_err-cut_last.ensures.1 (memory_fault (fault text) c.in_err-cut_last.field-0.0 c.in_err-cut_last.ensures.memory)
