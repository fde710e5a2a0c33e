-- What ended a run whose exit status is 3, and what was printed of it.
use Rattle.std.specs.Prelude.{◌≡◌, ◌⊎◌, ◌<◌, ℕ, Bool, false, true, List, Option, None}
use Rattle.clap.specs.Words.{Text}
use Rattle.line_model.specs.declared.device.Sink.{Ghosts as Sink}
use Rattle.line_model.specs.declared.device.Source.{Ghosts as Source}
use Rattle.line_model.specs.declared.fault.Fault.{Fault}
use Rattle.line_model.specs.declared.fault.Fault.TheVariants.{Memory, Trace, Read, Write, Start}
use Rattle.command_line.specs.Asked.{AskedWords, Trace as OfTrace}
use Rattle.command_line.specs.Faults.{IsFaultSaid, IsUnopened}
use Rattle.command_line.specs.Program.{fault_status}
use Rattle.command_line.specs.declared.asked.ScanMode.{ScanMode}
use Rattle.command_line.specs.declared.asked.ScanMode.TheVariants.{Workers}
use Rattle.command_line.specs.declared.asked.TraceOutput.{TraceOutput}
use Rattle.command_line.specs.declared.asked.TraceOutput.TheVariants.{Report}

-- whether workers may scan the trace in a mode, for an output, and where words ask for it
abbrev pub has_workers : ScanMode → Bool
has_workers (Workers count) = true
has_workers _ = false

abbrev pub output_workers : TraceOutput → Bool
output_workers (Report report) = has_workers report.mode
output_workers _ = false

abbrev pub asked_workers : AskedWords → Bool
asked_workers (OfTrace name progress output capture) = output_workers output
asked_workers _ = false

-- what shows that a run met a fault: the source failed, the sink failed, or no thread was made; of refused memory and of a faulty line nothing
-- does
abbrev pub IsCause : (read_failed write_failed unstarted : Type 0) → Fault → Type 0
IsCause read_failed write_failed unstarted Memory = Unit {0}
IsCause read_failed write_failed unstarted (Trace line kind) = Unit {0}
IsCause read_failed write_failed unstarted Read = read_failed
IsCause read_failed write_failed unstarted Write = write_failed
IsCause read_failed write_failed unstarted Start = unstarted
IsCause read_failed write_failed unstarted _ = ⊥

-- a fault whose status is 3 ended a run; the errors had `before` and have `after`, with its line first
pub record IsHalted (read_failed write_failed unstarted : Type 0) (before after : Option (List ℕ)) (well : Type 0) : Type 0 where
  pub fault : Fault
  pub other : fault_status fault ≡ 3
  pub cause : IsCause read_failed write_failed unstarted fault
  pub said : IsFaultSaid fault before after well

-- the same of a source, a sink and the errors, before and after; only workers are refused threads, and the source was not asked then
abbrev pub HaltsRun : {S K E : Type 0} → Source S → Sink K → Sink E → (workers : Bool) → (source source' : S) (sink sink' : K) (errors errors' : E) → Type 0
HaltsRun read write print workers source source' sink sink' errors errors' =
    IsHalted (read.failures source < read.failures source') (write.failures sink < write.failures sink') ((workers ≡ true) × (read.calls source' ≡ read.calls source)) (print.taken errors) (print.taken errors') (print.failures errors' ≡ print.failures errors)

-- the trace of this name could not be opened, which was printed first, and source and sink are as they were; or a fault ended the run
abbrev pub IsStopped : {S K E : Type 0} → Source S → Sink K → Sink E → (workers : Bool) → (name : Option (List ℕ)) → (source source' : S) (sink sink' : K) (errors errors' : E) → Type 0
IsStopped read write print workers name source source' sink sink' errors errors' =
    (IsUnopened name (print.taken errors) (print.taken errors') (print.failures errors' ≡ print.failures errors) × (source' ≡ source) × (sink' ≡ sink))
    ⊎ HaltsRun read write print workers source source' sink sink' errors errors'

-- the name of the trace that is opened, if one is
abbrev pub opened_by : AskedWords → Option Text
opened_by (OfTrace name progress output capture) = name
opened_by _ = None
