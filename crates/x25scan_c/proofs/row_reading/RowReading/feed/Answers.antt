use Rattle.std.proofs.Common.{◌∙◌, ◌++◌, sym}
use Rattle.annotated_trace.specs.declared.rows.Rows.TheVariants.{All}
use Rattle.line_model.specs.text.Text.{ended_lines}
use Rattle.live_report.proofs.LiveLemmas.{ok_by, on_both, on_sound}
use Rattle.x25scan_c.proofs.ScanLemmas.{adds_rows, adds_rows_before, none_sent}
use Rattle.x25scan_c.proofs.row_reading.RowReading.feed.Goals as goal

pub feed-answer-requires : goal.feed-answer-requires
feed-answer-requires g c =
    let some = c.requires c.in_default.is in
    record { fed = (All, some.0, some.1.0) }

pub returns-clause-sound : goal.returns-clause-sound
returns-clause-sound g c none =
    let some = c.requires c.in_default.is in
    let same = sym c.err-self.ensures.value ∙ none in
    (some.0 ++ c.args.chunk.now, (ok_by c.feed-answer.result _ (c.feed-answer.ensures.fed All some.0 some.1.0) same, ok_by c.feed-answer.result _ c.feed-answer.ensures.none_held same, none))

pub returns-clause-fed : goal.returns-clause-fed
returns-clause-fed g c text w =
    on_sound c.feed-answer.result _ _ _ c.err-self.ensures.value (on_both c.feed-answer.result _ _ (c.feed-answer.ensures.fed All text w.0) c.feed-answer.ensures.none_held) (λ both none. (both.0, both.1, none))

pub returns-clause-rows : goal.returns-clause-rows
returns-clause-rows g c text w =
    adds_rows c.feed-answer.result (ended_lines text) (ended_lines (text ++ c.args.chunk.now)) _ _ (λ gone before. c.feed-answer.ensures.printed All gone text _ w.0 (none_sent gone _ _ (ended_lines text) w.1 before))

pub returns-clause-refused : goal.returns-clause-refused
returns-clause-refused g c text w = c.feed-answer.ensures.refused All text w.0

pub returns-clause-before : goal.returns-clause-before
returns-clause-before g c text w same =
    adds_rows_before c.feed-answer.result (ended_lines text) (ended_lines (text ++ c.args.chunk.now)) _ _ (λ gone before. c.feed-answer.ensures.at_line All gone text _ w.0 (none_sent gone _ _ (ended_lines text) w.1 before) same)
