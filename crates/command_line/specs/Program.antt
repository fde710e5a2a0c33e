-- What the exit status of the program says.
use Rattle.std.specs.Prelude.{◌≡◌, ℕ, Bool, true, false, ◌<◌, ◌++◌, ◌⊎◌, [], List, Option, Some, None, Result, Ok, Err, take, flat_map, ◌==◌, if◌then◌else◌}
use Rattle.clap.specs.Words.{IsAmong, Kinds}
use Rattle.clap.specs.declared.error.kind.ErrorKind.{ErrorKind}
use Rattle.clap.specs.declared.error.kind.ErrorKind.TheVariants.{DisplayHelp, DisplayVersion, OutOfMemory}
use Rattle.line_model.specs.basics.Device.{with_more}
use Rattle.line_model.specs.basics.Written.{HasFront}
use Rattle.line_model.specs.text.Text.{fault}
use Rattle.line_model.specs.declared.fault.Kind.{Kind}
use Rattle.line_model.specs.declared.fault.Fault.{Fault}
use Rattle.line_model.specs.declared.fault.Fault.TheVariants.{Trace, Write}
use Rattle.line_model.specs.declared.totals.Summary.{Summary}
use Rattle.trace_text.specs.Sources.{IsRefusedBy}
use Rattle.trace_reading.specs.Readings.{in_flight}
use Rattle.live_report.specs.Reports.{IsReported, IsTaken}
use Rattle.trace_scan.specs.Follow.{IsFollowRefusal, IsWrittenOf}
use Rattle.json_lines.specs.Json.{json_text}
use Rattle.descriptions.specs.Circuits.{Circuit}
use Rattle.descriptions.specs.RowObjects.{circuit_object}
use Rattle.line_model.specs.traces.Traces.{trace_report, trace_summary}
use Rattle.command_line.specs.declared.help.TheConstants.{HELP, VERSION}
use Rattle.command_line.specs.declared.asked.ScanMode.{ScanMode}
use Rattle.command_line.specs.declared.asked.ScanMode.TheVariants.{Follow, Workers}
use Rattle.trace_text.specs.Refusals.{IsRefusal}

-- 0 without findings, otherwise 1
abbrev pub summary_status : Summary → ℕ
summary_status sums = if sums.findings == 0 then 0 else 1

-- 2 for a refused trace, otherwise 3
abbrev pub fault_status : Fault → ℕ
fault_status (Trace line kind) = 2
fault_status _ = 3

-- the status by the sums of a report, or by the fault in its place
abbrev pub status_of : Result Summary Fault → ℕ
status_of (Ok sums) = summary_status sums
status_of (Err fault) = fault_status fault

-- 3 where memory is refused, 0 for help and the version, otherwise 64
abbrev pub words_status : ErrorKind → ℕ
words_status OutOfMemory = 3
words_status DisplayHelp = 0
words_status DisplayVersion = 0
words_status _ = 64

-- the text that words ask for in place of a scan: the help, or the version
abbrev pub asked_text : ErrorKind → Option (List ℕ)
asked_text DisplayHelp = Some HELP.now
asked_text DisplayVersion = Some VERSION.now
asked_text _ = None

-- a sink accepted all of the text that was asked for, or it failed and accepted a first part of it; where none was asked for it is as it was
abbrev pub IsAskedTextTaken : (text : Option (List ℕ)) → (before after : Option (List ℕ)) → (well : Type 0) → Type 0
IsAskedTextTaken None before after well = after ≡ before
IsAskedTextTaken (Some text) before after well = HasFront before after text × (well → after ≡ with_more before text)

-- what words with these kinds of error get: the status, and the text that they ask for
abbrev pub IsWordsAnswer : Kinds → (before after : Option (List ℕ)) → (well : Type 0) → (status : ℕ) → Type 0
IsWordsAnswer kinds before after well status = (kind : ErrorKind) × IsAmong kind kinds × (status ≡ words_status kind) × IsAskedTextTaken (asked_text kind) before after well

-- how many of the last bytes that were read before the last call may show a faulty line: none in one thread, otherwise those of the blocks in
-- flight
abbrev pub lag_of : ScanMode → ℕ
lag_of (Workers count) = in_flight
lag_of _ = 0

-- whether findings are printed while the trace is read
abbrev pub is_followed : ScanMode → Bool
is_followed Follow = true
is_followed _ = false

-- a text was refused by this fault, where that is a faulty line
abbrev pub RefusesLine : (lag : ℕ) (text : List ℕ) (left asked : Option (List ℕ)) → Fault → Type 0
RefusesLine lag text left asked fault = fault_status fault ≡ 2 → IsRefusedBy lag (IsRefusal lag) text left asked fault

-- a text is refused by a faulty line
pub record IsFaulty (lag : ℕ) (text : List ℕ) (left asked : Option (List ℕ)) : Type 0 where
  pub line : ℕ
  pub kind : Kind
  pub refusal : IsRefusedBy lag (IsRefusal lag) text left asked (Trace line kind)

-- why a scan refused a text, and what its sink accepted then, by whether it followed the text
abbrev pub IsScanRefusal : (lag : ℕ) → (followed : Bool) → (text : List ℕ) → (left asked before after : Option (List ℕ)) → (well : Type 0) → Fault → Type 0
IsScanRefusal lag false text left asked before after well fault = IsRefusedBy lag (IsRefusal lag) text left asked fault × IsTaken before after (trace_report text) fault
IsScanRefusal lag true text left asked before after well fault = IsRefusedBy 0 IsFollowRefusal text left asked fault × IsRefusedBy 0 (IsWrittenOf before after well) text left asked fault

-- the sink failed on the report of a text without a fault, and accepted a first part of it
pub record IsCutShort (text : List ℕ) (before after : Option (List ℕ)) (well : Type 0) : Type 0 where
  pub failed : ¬ well
  pub sound : fault text ≡ None
  pub count : ℕ
  pub part : after ≡ with_more before (take count (trace_report text))

-- a fault other than the text's ended a scan: what it says of the bytes that were read; and the sink is as it was, or it failed on the
-- report
pub record IsStoppedBy (lag : ℕ) (text : List ℕ) (left asked before after : Option (List ℕ)) (well : Type 0) : Type 0 where
  pub cause : Fault
  pub other : fault_status cause ≡ 3
  pub refusal : IsRefusedBy lag (IsRefusal lag) text left asked cause
  pub taken : (after ≡ before) ⊎ IsCutShort text before after well

-- what the status says of a text, of which the source has `left`, and had `asked` before its last call: the sink had `before` and has `after`, and `well` says that it did not fail
pub record IsStatus (lag : ℕ) (text : List ℕ) (left asked before after : Option (List ℕ)) (well : Type 0) (status : ℕ) : Type 0 where
  pub clean : status ≡ 0 → IsReported text before after (trace_summary text) × ((trace_summary text).findings ≡ 0)
  pub found : status ≡ 1 → IsReported text before after (trace_summary text) × (0 < (trace_summary text).findings)
  pub faulty : status ≡ 2 → IsFaulty lag text left asked × (after ≡ before)
  pub other : status ≡ 3 → IsStoppedBy lag text left asked before after well
  pub range : status < 4

-- a text is refused by a faulty line, after the lines of what was found before it
pub record IsFaultyAfter (text : List ℕ) (left asked before after : Option (List ℕ)) (well : Type 0) : Type 0 where
  pub line : ℕ
  pub kind : Kind
  pub refusal : IsRefusedBy 0 IsFollowRefusal text left asked (Trace line kind)
  pub written_of : IsRefusedBy 0 (IsWrittenOf before after well) text left asked (Trace line kind)

-- a fault other than the text's ended a scan that followed it: what it says of the bytes that were read, and what the sink accepted
pub record IsEndedBy (text : List ℕ) (left asked before after : Option (List ℕ)) (well : Type 0) : Type 0 where
  pub cause : Fault
  pub other : fault_status cause ≡ 3
  pub refusal : IsRefusedBy 0 IsFollowRefusal text left asked cause
  pub written_of : IsRefusedBy 0 (IsWrittenOf before after well) text left asked cause
  pub failed : cause ≡ Write → ¬ well

-- what the status says of a text that was followed; `well` says that the sink did not fail
pub record IsFollowStatus (text : List ℕ) (left asked before after : Option (List ℕ)) (well : Type 0) (status : ℕ) : Type 0 where
  pub clean : status ≡ 0 → IsReported text before after (trace_summary text) × ((trace_summary text).findings ≡ 0)
  pub found : status ≡ 1 → IsReported text before after (trace_summary text) × (0 < (trace_summary text).findings)
  pub faulty : status ≡ 2 → IsFaultyAfter text left asked before after well
  pub other : status ≡ 3 → IsEndedBy text left asked before after well
  pub range : status < 4

-- what the status says of a text that was scanned, by whether it was followed
abbrev pub IsScanned : (lag : ℕ) → (followed : Bool) → (text : List ℕ) → (left asked before after : Option (List ℕ)) → (well : Type 0) → (status : ℕ) → Type 0
IsScanned lag false text left asked before after well status = IsStatus lag text left asked before after well status
IsScanned lag true text left asked before after well status = IsFollowStatus text left asked before after well status

-- the objects of lines, and behind them those of circuits
abbrev pub objects_text : (given : List ℕ) → (circuits : List Circuit) → List ℕ
objects_text given circuits = json_text given ++ flat_map circuit_object circuits

-- a sink that had `before` accepted a first part of them
pub record HasFirstObjects (given : List ℕ) (circuits : List Circuit) (before after : Option (List ℕ)) : Type 0 where
  pub front : List ℕ
  pub rest : List ℕ
  pub whole : objects_text given circuits ≡ front ++ rest
  pub taken : after ≡ with_more before front

-- a sink accepted the objects of all lines that were written, and of circuits, or it failed and accepted a first part of them
abbrev pub AreObjects : (given : List ℕ) → (circuits : List Circuit) → (failures plain : ℕ) → (before after : Option (List ℕ)) → (well : Type 0) → (status : ℕ) → Type 0
AreObjects given circuits failures plain before after well status =
    ((failures ≡ 0) × (status ≡ plain) × (after ≡ with_more before (objects_text given circuits))) ⊎ ((status ≡ 3) × (¬ well) × HasFirstObjects given circuits before after)

-- what the status says of a text whose report is printed as JSON lines: lines were written as to a sink that accepts all, unless
-- the sink failed, and the sink accepted their objects, and those of circuits behind a report
pub record IsScannedAsJson (circuits : List Circuit) (lag : ℕ) (followed : Bool) (text : List ℕ) (left asked before after : Option (List ℕ)) (well : Type 0) (status : ℕ) : Type 0 where
  pub given : List ℕ
  pub failures : ℕ
  pub plain : ℕ
  pub scanned : IsScanned lag followed text left asked (Some []) (Some given) (failures ≡ 0) plain
  pub objects : AreObjects given circuits failures plain before after well status
  pub none : 1 < plain → circuits ≡ []

-- what the status says of a text, by whether its report is printed as JSON lines and whether it was followed
abbrev pub IsStatusOf : (lag : ℕ) → (json followed : Bool) → (text : List ℕ) → (left asked before after : Option (List ℕ)) → (well : Type 0) → (status : ℕ) → Type 0
IsStatusOf lag false followed text left asked before after well status = IsScanned lag followed text left asked before after well status
IsStatusOf lag true followed text left asked before after well status = (circuits : List Circuit) × IsScannedAsJson circuits lag followed text left asked before after well status

-- what it says of a trace whose text the source shows
abbrev pub IsStatusOfShown : (lag : ℕ) → (json followed : Bool) → (trace left asked before after : Option (List ℕ)) → (well : Type 0) → (status : ℕ) → Type 0
IsStatusOfShown lag json followed trace left asked before after well status =
    (text : List ℕ) → trace ≡ Some text → IsStatusOf lag json followed text left asked before after well status

-- a report, or the objects of its lines and of circuits
abbrev pub report_in : (json : Bool) → (circuits : List Circuit) → (report : List ℕ) → List ℕ
report_in false circuits report = report
report_in true circuits report = objects_text report circuits

-- a sink accepted the report of some text without a fault, and the status is that of its sums
pub record HasReport (json : Bool) (circuits : List Circuit) (before after : Option (List ℕ)) (status : ℕ) : Type 0 where
  pub text : List ℕ
  pub sound : fault text ≡ None
  pub taken : after ≡ with_more before (report_in json circuits (trace_report text))
  pub counted : status ≡ summary_status (trace_summary text)

-- what the status says where a report was asked for, whatever the source shows: one below 2 is that of a report that was accepted
pub record IsReportStatusWith (json : Bool) (circuits : List Circuit) (before after : Option (List ℕ)) (status : ℕ) : Type 0 where
  pub reported : status < 2 → HasReport json circuits before after status
  pub range : status < 4

-- with the objects of some circuits
abbrev pub IsReportStatus : (json : Bool) → (before after : Option (List ℕ)) → (status : ℕ) → Type 0
IsReportStatus json before after status = (circuits : List Circuit) × IsReportStatusWith json circuits before after status

-- the trace that is read: that of its name, or standard input
abbrev pub trace_of : (name : Option (List ℕ)) → (standard : Option (List ℕ)) → (named : List ℕ → Option (List ℕ)) → Option (List ℕ)
trace_of None standard named = standard
trace_of (Some name) standard named = named name

-- memory ran out before the trace was read, or it could not be opened: source and sink were not asked. The status is 64 where options of captures
-- don't fit the file
pub record IsUnread (has_options : Bool) {S K : Type 0} (source source' : S) (sink sink' : K) (status : ℕ) : Type 0 where
  pub unasked : source' ≡ source
  pub unwritten : sink' ≡ sink
  pub other : (status ≡ 3) ⊎ ((has_options ≡ true) × (status ≡ 64))
