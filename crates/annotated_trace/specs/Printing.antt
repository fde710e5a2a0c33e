-- What a scan that prints a trace returns, and what its sink accepted.
use Rattle.std.specs.Prelude.{◌≡◌, ◌≢◌, ◌⊎◌, ℕ, ◌<◌, ◌≤◌, ◌^◌, List, [], ◌++◌, length, Option, Some, None}
use Rattle.trace_text.specs.Decided.{NoneDecidedButLast}
use Rattle.trace_text.specs.Sources.{IsAllGiven, IsGiven, NoneDecided}
use Rattle.line_model.specs.text.Text.{Line, early, ended_lines}
use Rattle.line_model.specs.declared.fault.Fault.{Fault}
use Rattle.line_model.specs.declared.fault.Fault.TheVariants.{Memory, Trace, Read, Write}
use Rattle.line_model.specs.declared.totals.Summary.{Summary}
use Rattle.annotated_trace.specs.Printers.{HasFirstPrint, HasPrintBefore, HasPrinted, IsEndRefusal, IsPrinterFault, IsRefusalOf, WasFed}
use Rattle.annotated_trace.specs.declared.printing.TracePrinter.{TracePrinter}

-- the faults that it may meet
abbrev pub IsPrintingFault : Fault → Type 0
IsPrintingFault Memory = Unit {0}
IsPrintingFault (Trace line kind) = Unit {0}
IsPrintingFault Read = Unit {0}
IsPrintingFault Write = Unit {0}
IsPrintingFault _ = ⊥

-- a printer of a trace was fed a text, and the sink has the print of the lines that ended; it failed `old` times before, and `now` times by
-- then
pub record HasWritten {A O P : Type 0} (followed : O → P → List ℕ → Type 0) (size : O → ℕ) (is_print : List Line → List ℕ → Type 0) (before taken : Option (List ℕ)) (old now : ℕ) (text : List ℕ) (t : TracePrinter A O P) : Type 0 where
  pub fed : WasFed followed t text
  pub printed : HasPrinted is_print before taken [] (ended_lines text)
  pub none_held : t.held.items ≡ []
  pub rising : old ≤ now
  pub sound : early text ≡ None
  pub sized : size t.trace ≡ length text

-- after this text was fed, the next bytes of it were refused
pub record IsRefusedAfter (is_print : List Line → List ℕ → Type 0) (before taken : Option (List ℕ)) (old now : ℕ) (text last : List ℕ) (returned : Fault) : Type 0 where
  pub refusal : IsRefusalOf (early (text ++ last)) returned
  pub first : HasFirstPrint is_print before taken (ended_lines (text ++ last))
  pub at_line : now ≡ old → HasPrintBefore is_print before taken (ended_lines (text ++ last)) returned
  pub kinds : IsPrinterFault returned
  pub failed : returned ≡ Write → old < now

-- a source gave a text to its end, and the sink accepted of it what `whole` says
pub record HasPassed (whole : (x : List ℕ) (before after : Option (List ℕ)) → Summary → Type 0) (left after asked before taken : Option (List ℕ)) (sums : Summary) : Type 0 where
  pub given : List ℕ
  pub source : IsAllGiven left after asked given
  pub printed : whole given before taken sums

-- why a text is refused while it is read: a line is faulty however the text goes on; or the source failed, and what was read shows no
-- faulty line; or the sink failed or memory ran out, and all but at most the last 65,536 bytes show none
abbrev pub IsReadRefusal : (given : List ℕ) → Fault → Type 0
IsReadRefusal given Memory = NoneDecidedButLast (2 ^ 16) given
IsReadRefusal given (Trace line kind) = NoneDecidedButLast (2 ^ 16) given × (early given ≡ Some (line, kind))
IsReadRefusal given Read = early given ≡ None
IsReadRefusal given Write = NoneDecidedButLast (2 ^ 16) given
IsReadRefusal given _ = ⊥

-- the bytes that were read are refused while they are read, and the sink has a first part of the print of their lines: where the source
-- failed that of all lines that ended, at a faulty line that of all lines before it, if it did not fail
pub record StopsReading (is_print : List Line → List ℕ → Type 0) (given : List ℕ) (before taken : Option (List ℕ)) (well : Type 0) (returned : Fault) : Type 0 where
  pub refusal : IsReadRefusal given returned
  pub first : HasFirstPrint is_print before taken (ended_lines given)
  pub at_line : well → HasPrintBefore is_print before taken (ended_lines given) returned
  pub at_failure : returned ≡ Read → HasPrinted is_print before taken [] (ended_lines given)

-- the whole text is refused at its end, and none of its lines was refused while it was read; the sink has the print of the lines that ended,
-- or where it failed a first part of what is printed of the text
pub record StopsAtEnd (is_print : List Line → List ℕ → Type 0) (has_first : (x : List ℕ) (before after : Option (List ℕ)) → Type 0) (left after asked : Option (List ℕ)) (given : List ℕ) (before taken : Option (List ℕ)) (returned : Fault) : Type 0 where
  pub source : IsAllGiven left after asked given
  pub sound : early given ≡ None
  pub refusal : IsEndRefusal given returned
  pub kept : returned ≢ Write → HasPrinted is_print before taken [] (ended_lines given)
  pub first : returned ≡ Write → has_first given before taken

-- a source gave some bytes, and they are refused; those before its last call, when it had `asked`, decide no faulty line
pub record StopsPrinting (is_print : List Line → List ℕ → Type 0) (has_first : (x : List ℕ) (before after : Option (List ℕ)) → Type 0) (left after asked before taken : Option (List ℕ)) (well : Type 0) (returned : Fault) : Type 0 where
  pub given : List ℕ
  pub source : IsGiven left after given
  pub order : (text : List ℕ) → left ≡ Some text → NoneDecided 0 text asked
  pub why : StopsReading is_print given before taken well returned ⊎ StopsAtEnd is_print has_first left after asked given before taken returned
