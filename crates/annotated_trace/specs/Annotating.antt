-- What a scan that annotates a trace returns, and what its sink accepted.
use Rattle.std.specs.Prelude.{◌≡◌, ℕ, List, ◌++◌, Option, None}
use Rattle.line_model.specs.basics.Device.{with_more}
use Rattle.line_model.specs.text.Text.{fault}
use Rattle.line_model.specs.traces.Traces.{trace_summary}
use Rattle.line_model.specs.declared.fault.Fault.{Fault}
use Rattle.line_model.specs.declared.totals.Summary.{Summary}
use Rattle.annotated_trace.specs.Annotation.{IsAnnotation, IsAnnotationOf}
use Rattle.annotated_trace.specs.Printing.{HasPassed, IsPrintingFault, StopsPrinting}
use Rattle.annotated_trace.specs.declared.rows.Rows.{Rows}

-- the text has no fault, the sink accepted an annotation of it, and the sums are those of its report
pub record IsAnnotated (choice : Rows) (x : List ℕ) (before after : Option (List ℕ)) (sums : Summary) : Type 0 where
  pub sound : fault x ≡ None
  pub bytes : List ℕ
  pub taken : after ≡ with_more before bytes
  pub annotation : IsAnnotation choice x bytes
  pub counted : sums ≡ trace_summary x

-- the sink accepted a first part of an annotation of the text
pub record HasFirstOf (choice : Rows) (x : List ℕ) (before after : Option (List ℕ)) : Type 0 where
  pub front : List ℕ
  pub left : List ℕ
  pub taken : after ≡ with_more before front
  pub annotation : IsAnnotation choice x (front ++ left)

-- the faults that it may meet
abbrev pub IsAnnotatingFault : Fault → Type 0
IsAnnotatingFault fault = IsPrintingFault fault

-- a source gave a text without a fault, and the sink accepted an annotation of it; the sums are those of its report
abbrev pub Annotates : (choice : Rows) (left after asked before taken : Option (List ℕ)) → Summary → Type 0
Annotates choice left after asked before taken sums = HasPassed (IsAnnotated choice) left after asked before taken sums

-- a source gave some bytes, and they are refused; the sink has a first part of their annotation, at a faulty line that of all lines before
-- it, if it did not fail
abbrev pub Stops : (choice : Rows) (left after asked before taken : Option (List ℕ)) (well : Type 0) → Fault → Type 0
Stops choice left after asked before taken well returned = StopsPrinting (IsAnnotationOf choice) (HasFirstOf choice) left after asked before taken well returned
