-- An annotated trace is a trace, and says the same.
use Rattle.std.specs.Prelude.{◌≡◌, ℕ, ◌≤◌, List, [], Some, None, length}
use Rattle.line_model.specs.observer.Report.{report_of}
use Rattle.line_model.specs.text.Text.{fault, head, lines_of, rows, text_limit}
use Rattle.line_model.specs.traces.Traces.{trace_report}
use Rattle.line_model.specs.declared.interface.Interface.{Interface}
use Rattle.annotated_trace.specs.Annotation.{AreMarksOf, IsAnnotation, marks_in}
use Rattle.annotated_trace.specs.declared.rows.Rows.{Rows}
use Rattle.annotated_trace.specs.declared.rows.Rows.TheVariants.{All}
use Rattle.line_model.specs.packets.Says.{items_of}

-- a text without a fault has the header and the rows of another, and so its report
pub record SaysTheSame (source bytes : List ℕ) : Type 0 where
  pub sound : fault bytes ≡ None
  pub header : head bytes ≡ head source
  pub same_rows : rows bytes ≡ rows source
  pub report : trace_report bytes ≡ trace_report source

-- each annotation says the same as its text, if it is no larger than a text may be
abbrev pub ReportLaw : Type 0
ReportLaw = (choice : Rows) (source bytes : List ℕ) → fault source ≡ None → IsAnnotation choice source bytes → length bytes ≤ text_limit → SaysTheSame source bytes

-- the marks of an annotation are those of the report's findings, in their order, except for marks that the text had before
abbrev pub MarksLaw : Type 0
MarksLaw = (source bytes : List ℕ) (i : Interface) → fault source ≡ None → head source ≡ Some i → marks_in (lines_of source) ≡ [] → IsAnnotation All source bytes
    → AreMarksOf (report_of i (items_of i (rows source))).findings (marks_in (lines_of bytes))
