-- What is printed of a trace where the table of its calls is asked for.
use Rattle.std.specs.Prelude.{◌≡◌, ℕ, List, [], Option}
use Rattle.line_model.specs.basics.Records.{Report}
use Rattle.line_model.specs.declared.fault.Fault.{Fault}
use Rattle.line_model.specs.declared.totals.Summary.{Summary}
use Rattle.line_model.specs.text.Text.{Line}
use Rattle.annotated_trace.specs.Printed.{IsPrintOf}
use Rattle.annotated_trace.specs.Printers.{HasFirstPrintOf, IsPrinted}
use Rattle.annotated_trace.specs.Printing.{HasPassed, StopsPrinting}
use Rattle.descriptions.specs.CallTable.{IsTableOf}
use Rattle.descriptions.specs.declared.call_columns.TableForm.{TableForm}

-- nothing is printed of any of some lines
abbrev pub IsNothing : List Line → List ℕ → Type 0
IsNothing ls bytes = IsPrintOf (λ before l own. own ≡ []) [] ls bytes

-- after the last line comes the table of the report's calls, with what their rows add up to
abbrev pub ClosesWithCalls : TableForm → List Line → Report → List ℕ → Type 0
ClosesWithCalls form ls report bytes = IsTableOf form ls report.calls bytes

-- a source gave a text without a fault, and the sink accepted the table of the calls of its report; the sums are those of the report
abbrev pub PrintsCalls : TableForm → (left after asked before taken : Option (List ℕ)) → Summary → Type 0
PrintsCalls form left after asked before taken sums = HasPassed (IsPrinted IsNothing (ClosesWithCalls form)) left after asked before taken sums

-- a source gave some bytes, and they are refused; the sink has nothing, or where it failed at the end of the text a first part of the table
abbrev pub StopsCalls : TableForm → (left after asked before taken : Option (List ℕ)) → (well : Type 0) → Fault → Type 0
StopsCalls form left after asked before taken well fault = StopsPrinting IsNothing (HasFirstPrintOf IsNothing (ClosesWithCalls form)) left after asked before taken well fault
