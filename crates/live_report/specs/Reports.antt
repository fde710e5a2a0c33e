-- What a report says of a trace text, and what a sink received of it.
use Rattle.std.specs.Prelude.{◌≡◌, ℕ, List, Option, Some, None, take}
use Rattle.line_model.specs.basics.Device.{with_more}
use Rattle.line_model.specs.text.Text.{fault}
use Rattle.line_model.specs.traces.Traces.{trace_report, trace_summary}
use Rattle.line_model.specs.declared.fault.Kind.TheVariants.{HeaderMissing}
use Rattle.line_model.specs.declared.fault.Fault.{Fault}
use Rattle.line_model.specs.declared.fault.Fault.TheVariants.{Memory, Trace, Read, Write}
use Rattle.line_model.specs.declared.totals.Summary.{Summary}

-- the text has no fault, the sink received exactly its report, and the sums are those of its last line
pub record IsReported (text : List ℕ) (before after : Option (List ℕ)) (sums : Summary) : Type 0 where
  pub sound : fault text ≡ None
  pub taken : after ≡ with_more before (trace_report text)
  pub counted : sums ≡ trace_summary text

-- why a trace text has no report: memory ran out, the text is faulty, or the sink failed on the report of a text that
-- is not
abbrev pub IsRefusal : List ℕ → Fault → Type 0
IsRefusal text Memory = Unit {0}
IsRefusal text (Trace line kind) = fault text ≡ Some (line, kind)
IsRefusal text Write = fault text ≡ None
IsRefusal text _ = ⊥

-- the faults that a report may meet
abbrev pub IsReportFault : Fault → Type 0
IsReportFault Memory = Unit {0}
IsReportFault (Trace line kind) = Unit {0}
IsReportFault Write = Unit {0}
IsReportFault _ = ⊥

-- nothing was received, or where the sink failed a first part of the report
abbrev pub IsTaken : Option (List ℕ) → Option (List ℕ) → List ℕ → Fault → Type 0
IsTaken before after report Write = (n : ℕ) × (after ≡ with_more before (take n report))
IsTaken before after report _ = after ≡ before

-- a line is only refused where it would have to be the header
abbrev pub IsMissing : ℕ → Fault → Type 0
IsMissing at (Trace line kind) = (line ≡ at) × (kind ≡ HeaderMissing)
IsMissing at _ = Unit {0}

-- the faults that a scan of one thread may meet
abbrev pub IsScanFault : Fault → Type 0
IsScanFault Memory = Unit {0}
IsScanFault (Trace line kind) = Unit {0}
IsScanFault Read = Unit {0}
IsScanFault Write = Unit {0}
IsScanFault _ = ⊥

-- a first part was taken of the report of some text without a fault
pub record IsPartTaken (before after : Option (List ℕ)) : Type 0 where
  pub text : List ℕ
  pub sound : fault text ≡ None
  pub bytes : ℕ
  pub taken : after ≡ with_more before (take bytes (trace_report text))
