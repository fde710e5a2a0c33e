-- What is printed of a trace where a line for each finding is asked for.
use Rattle.std.specs.Prelude.{ℕ, List, [], Option}
use Rattle.line_model.specs.basics.Records.{Report}
use Rattle.line_model.specs.declared.fault.Fault.{Fault}
use Rattle.line_model.specs.declared.totals.Summary.{Summary}
use Rattle.line_model.specs.text.Text.{Line}
use Rattle.annotated_trace.specs.Printed.{IsPrintOf}
use Rattle.annotated_trace.specs.Printers.{HasFirstPrintOf, IsPrinted}
use Rattle.annotated_trace.specs.Printing.{HasPassed, StopsPrinting}
use Rattle.annotated_trace.specs.declared.rows.Rows.{Rows}
use Rattle.descriptions.specs.FindingLines.{IsFindingSums, IsLineFinding}

-- bytes are the lines of the findings of these rows of some lines, one after the other
abbrev pub AreFindingLines : Rows → List Line → List ℕ → Type 0
AreFindingLines rows ls bytes = IsPrintOf (IsLineFinding rows) [] ls bytes

-- after the last line comes what the findings of the report add up to
abbrev pub ClosesWithSums : List Line → Report → List ℕ → Type 0
ClosesWithSums ls report bytes = IsFindingSums report bytes

-- a source gave a text without a fault, and the sink accepted the lines of the findings of these rows of it and what those of its report add up
-- to; the sums are those of the report
abbrev pub PrintsFindings : Rows → (left after asked before taken : Option (List ℕ)) → Summary → Type 0
PrintsFindings rows left after asked before taken sums = HasPassed (IsPrinted (AreFindingLines rows) ClosesWithSums) left after asked before taken sums

-- a source gave some bytes, and they are refused; the sink has a first part of the lines: at a faulty line those of the chosen rows before it, if
-- the sink did not fail, and where the source failed those of the chosen rows whose line ended
abbrev pub StopsFindings : Rows → (left after asked before taken : Option (List ℕ)) → (well : Type 0) → Fault → Type 0
StopsFindings rows left after asked before taken well fault =
    StopsPrinting (AreFindingLines rows) (HasFirstPrintOf (AreFindingLines rows) ClosesWithSums) left after asked before taken well fault
