-- What the exit status of the program says, by what the words ask for.
use Rattle.std.specs.Prelude.{◌≡◌, ℕ, List, Option}
use Rattle.line_model.specs.declared.device.Sink.{Ghosts as Sink}
use Rattle.line_model.specs.declared.device.Source.{Ghosts as Source}
use Rattle.command_line.specs.Asked.{AskedWords, Conflict, Explanation, Trace, Wrong}
use Rattle.command_line.specs.Copies.{CopiesOf}
use Rattle.command_line.specs.Explaining.{IsAnswered}
use Rattle.command_line.specs.Faults.{SaysFault}
use Rattle.command_line.specs.Printing.{IsPrintStatus}
use Rattle.command_line.specs.Program.{IsReportStatus, IsStatusOfShown, IsWordsAnswer, is_followed, lag_of, trace_of}
use Rattle.command_line.specs.Trying.{TriesOf}
use Rattle.command_line.specs.declared.asked.AskedReport.{AskedReport}
use Rattle.command_line.specs.declared.asked.TraceOutput.{TraceOutput}
use Rattle.command_line.specs.declared.asked.TraceOutput.TheVariants.{Headers, Printing, Report, Text}

-- a report was asked for: of a trace that the source shows the status is that of its scan; whatever the source shows, one below 2 says that the
-- sink accepted the report of some text without a fault; and 2 says that the errors accepted the line of the trace's fault first
pub record IsReportOutput {S K E : Type 0} (read : Source S) (write : Sink K) (print : Sink E) (report : AskedReport) (trace : Option (List ℕ)) (source : S) (sink sink′ : K) (errors errors′ : E) (status : ℕ) : Type 0 where
  pub shown : IsStatusOfShown (lag_of report.mode) report.json (is_followed report.mode) trace (read.left source) (read.before source) (write.taken sink) (write.taken sink′) (write.failures sink′ ≡ write.failures sink) status
  pub reported : IsReportStatus report.json (write.taken sink) (write.taken sink′) status
  pub said : status ≡ 2 → SaysFault (lag_of report.mode) trace (read.left source) (read.before source) (print.taken errors) (print.taken errors′) (print.failures errors′ ≡ print.failures errors)

-- an output was asked for: the report, rows or the table of calls, the headers that are tried, or the text of the trace
abbrev pub IsOutput : {S K E : Type 0} → Source S → Sink K → Sink E → TraceOutput → (trace : Option (List ℕ)) → (source : S) (sink sink′ : K) (errors errors′ : E) → (status : ℕ) → Type 0
IsOutput read write print (Report report) trace source sink sink′ errors errors′ status = IsReportOutput read write print report trace source sink sink′ errors errors′ status
IsOutput read write print (Printing printing) trace source sink sink′ errors errors′ status =
    IsPrintStatus printing trace (read.left source) (read.before source) (write.taken sink) (write.taken sink′) (write.failures sink′ ≡ write.failures sink) status
IsOutput read write print Headers trace source sink sink′ errors errors′ status =
    TriesOf trace (read.left source) (read.before source) (write.taken sink) (write.taken sink′) (write.failures sink′ ≡ write.failures sink) status
IsOutput read write print Text trace source sink sink′ errors errors′ status = CopiesOf trace (write.taken sink) (write.taken sink′) status

-- what can't be asked for together was: nothing was read or written
pub record IsRefused {S K : Type 0} (source source′ : S) (sink sink′ : K) (status : ℕ) : Type 0 where
  pub unasked : source′ ≡ source
  pub unwritten : sink′ ≡ sink
  pub usage : status ≡ 64

-- words were answered: the errors, the source and the sink before and after; `named` is the bytes of the trace of a name
abbrev pub IsAnswerTo : {S K E : Type 0} → Source S → Sink K → Sink E → (named : List ℕ → Option (List ℕ)) → AskedWords → (source source′ : S) (sink sink′ : K) (errors errors′ : E) → (status : ℕ) → Type 0
IsAnswerTo read write print named (Wrong kinds) source source′ sink sink′ errors errors′ status =
    (source′ ≡ source) × IsWordsAnswer kinds (write.taken sink) (write.taken sink′) (write.failures sink′ ≡ write.failures sink) status
IsAnswerTo read write print named Conflict source source′ sink sink′ errors errors′ status = IsRefused source source′ sink sink′ status
IsAnswerTo read write print named (Explanation word) source source′ sink sink′ errors errors′ status = (source′ ≡ source) × IsAnswered word (write.taken sink) (write.taken sink′) status
IsAnswerTo read write print named (Trace name progress output capture) source source′ sink sink′ errors errors′ status =
    IsOutput read write print output (trace_of name (read.left source) named) source′ sink sink′ errors errors′ status
