use Rattle.annotated_trace.specs.declared.rows.Rows.TheVariants.{All}
use Rattle.line_model.specs.text.Text.{ended_lines}
use Rattle.trace_text.proofs.SourceLemmas.{passed_on}
use Rattle.x25scan_c.proofs.ScanLemmas.{none_sent}
use Rattle.x25scan_c.proofs.row_reading.RowReading.end.Goals as goal

pub end-requires : goal.end-requires
end-requires g c =
    let some = c.requires c.in_default.is in
    record { fed = (All, some.0, some.1.0) }

pub returns-clause-rows : goal.returns-clause-rows
returns-clause-rows g c text w gone before =
    (_, c.in_ok-end.ensures.printed All gone text _ w.0 (none_sent gone _ _ (ended_lines text) w.1 before))

pub returns-in_err-end-clause-refused : goal.returns-in_err-end-clause-refused
returns-in_err-end-clause-refused g c text w = passed_on c.from_residual.result c.in_err-end.field-0.0 _ c.from_residual.ensures.1 (c.in_err-end.ensures.refused All text w.0)
