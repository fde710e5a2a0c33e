-- What the exit status of the program says of a trace whose rows or calls are printed in place of its report.
use Rattle.std.specs.Prelude.{◌≡◌, ◌⊎◌, ℕ, List, [], Option}
use Rattle.line_model.specs.basics.Records.{Report}
use Rattle.line_model.specs.declared.device.Sink.{Ghosts as Sink}
use Rattle.line_model.specs.declared.device.Source.{Ghosts as Source}
use Rattle.line_model.specs.declared.fault.Fault.{Fault}
use Rattle.line_model.specs.declared.totals.Summary.{Summary}
use Rattle.line_model.specs.text.Text.{Line}
use Rattle.annotated_trace.specs.Annotating.{Annotates, Stops}
use Rattle.annotated_trace.specs.Printed.{IsPrintOf}
use Rattle.annotated_trace.specs.Printers.{HasFirstPrintOf, IsPrinted}
use Rattle.annotated_trace.specs.Printing.{HasPassed, StopsPrinting}
use Rattle.annotated_trace.specs.declared.rows.Rows.{Rows}
use Rattle.descriptions.specs.RowObjects.{IsClosing, IsLineObject}
use Rattle.descriptions.specs.declared.call_columns.TableForm.TheVariants as table
use Rattle.command_line.specs.Calls.{PrintsCalls, StopsCalls}
use Rattle.command_line.specs.Findings.{PrintsFindings, StopsFindings}
use Rattle.command_line.specs.Program.{fault_status, summary_status}
use Rattle.command_line.specs.declared.asked.OutputForm.TheVariants.{Comments, Findings, Objects, Table, TableObjects}
use Rattle.command_line.specs.declared.asked.Printing.{Printing}

-- bytes are the objects of these rows of some lines, one after the other
abbrev pub AreRowObjects : Rows → List Line → List ℕ → Type 0
AreRowObjects rows ls bytes = IsPrintOf (IsLineObject rows) [] ls bytes

-- after the last line come the objects of the report
abbrev pub ClosesWithObjects : List Line → Report → List ℕ → Type 0
ClosesWithObjects ls report bytes = IsClosing report bytes

-- a source gave a text without a fault, and the sink accepted the objects of these rows of it and those of its report; the sums are those of the
-- report
abbrev pub PrintsRows : Rows → (left after asked before taken : Option (List ℕ)) → Summary → Type 0
PrintsRows rows left after asked before taken sums = HasPassed (IsPrinted (AreRowObjects rows) ClosesWithObjects) left after asked before taken sums

-- a source gave some bytes, and they are refused; the sink has a first part of the objects: at a faulty line those of the chosen rows before it,
-- if the sink did not fail, and where the source failed those of the chosen rows whose line ended
abbrev pub StopsRows : Rows → (left after asked before taken : Option (List ℕ)) → (well : Type 0) → Fault → Type 0
StopsRows rows left after asked before taken well fault =
    StopsPrinting (AreRowObjects rows) (HasFirstPrintOf (AreRowObjects rows) ClosesWithObjects) left after asked before taken well fault

-- a trace was printed in a form
abbrev pub Prints : Printing → (left after asked before taken : Option (List ℕ)) → Summary → Type 0
Prints printing left after asked before taken sums = elim printing.form [
  | Comments ↦ Annotates printing.rows left after asked before taken sums
  | Objects ↦ PrintsRows printing.rows left after asked before taken sums
  | Findings ↦ PrintsFindings printing.rows left after asked before taken sums
  | Table ↦ PrintsCalls table.Csv left after asked before taken sums
  | TableObjects ↦ PrintsCalls table.Objects left after asked before taken sums
]

-- it was refused
abbrev pub StopsBy : Printing → (left after asked before taken : Option (List ℕ)) → (well : Type 0) → Fault → Type 0
StopsBy printing left after asked before taken well fault = elim printing.form [
  | Comments ↦ Stops printing.rows left after asked before taken well fault
  | Objects ↦ StopsRows printing.rows left after asked before taken well fault
  | Findings ↦ StopsFindings printing.rows left after asked before taken well fault
  | Table ↦ StopsCalls table.Csv left after asked before taken well fault
  | TableObjects ↦ StopsCalls table.Objects left after asked before taken well fault
]

-- the same of a source and a sink, before and after
abbrev pub PrintsTo : {S K : Type 0} → Source S → Sink K → Printing → (source source' : S) (sink sink' : K) → Summary → Type 0
PrintsTo read write printing source source' sink sink' sums = Prints printing (read.left source) (read.left source') (read.before source') (write.taken sink) (write.taken sink') sums

abbrev pub StopsTo : {S K : Type 0} → Source S → Sink K → Printing → (source source' : S) (sink sink' : K) → Fault → Type 0
StopsTo read write printing source source' sink sink' fault =
    StopsBy printing (read.left source) (read.left source') (read.before source') (write.taken sink) (write.taken sink') (write.failures sink' ≡ write.failures sink) fault

-- a source that had `left` was printed to a sink, and the status is that of the sums; or it was refused, and the status is that of the fault
abbrev pub IsPrintStatus : Printing → (left after asked before taken : Option (List ℕ)) → (well : Type 0) → (status : ℕ) → Type 0
IsPrintStatus printing left after asked before taken well status =
    ((sums : Summary) × Prints printing left after asked before taken sums × (status ≡ summary_status sums))
    ⊎ ((fault : Fault) × StopsBy printing left after asked before taken well fault × (status ≡ fault_status fault))
