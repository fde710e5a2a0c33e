-- What a scan holds: what it was fed, and what waits to be taken.
use Rattle.std.specs.Prelude.{◌≡◌, ◌⊎◌, ℕ, Bool, true, false, List, ◌++◌, Option, Some, None, if◌then◌else◌, ◌==◌}
use Rattle.annotated_trace.specs.Printers.{IsFull}
use Rattle.channel_run.specs.declared.run.Channel.{Ghosts as Machine}
use Rattle.json_lines.specs.Json.{json_text}
use Rattle.line_model.specs.declared.fault.Fault.{Fault}
use Rattle.line_model.specs.declared.fault.Fault.TheVariants.{Trace}
use Rattle.line_model.specs.declared.fault.Kind.{Kind}
use Rattle.line_model.specs.declared.finding.Finding.{Finding}
use Rattle.line_model.specs.declared.state.Side.{Side}
use Rattle.line_model.specs.text.Text.{early, ended_lines, fault, good_lines}
use Rattle.line_model.specs.traces.Traces.{trace_report}
use Rattle.live_report.specs.Found.{HasFound, found as findings_of}
use Rattle.live_report.specs.Lives.{IsFed, WasFed}
use Rattle.trace_text.specs.RowTexts.{row_text}
use Rattle.x25scan_c.specs.Rows.{AddsRows, HasPrintedRows, IsPrintingRows}
use Rattle.x25scan_c.specs.Waits.{refusals, waiting}
use Rattle.x25scan_c.specs.declared.reading.Reading.{Reading}
use Rattle.x25scan_c.specs.declared.report_reading.ReportReading.{ReportReading}
use Rattle.std_heap.specs.declared.Global.{Global}
use Rattle.channel_machine.specs.declared.gaps.channel.GapChannel.{GapChannel}
use Rattle.channel_machine.specs.declared.packed.PackedStatus.{PackedStatus}
use Rattle.x25scan_c.specs.declared.scanning.Scanning.{Scanning}
use Rattle.x25scan_c.specs.declared.reading.Reading.TheVariants.{Report, Rows, Ended}

-- the machine of one channel, of the observer of a scan
abbrev pub ScanMachine : Type 1
ScanMachine = Machine (GapChannel Global PackedStatus) Global

-- a trace was fed some text, or it refused
abbrev pub IsJudging : {A C : Type 0} → Machine C A → ReportReading A C → Type 0
IsJudging m reports = IsFed m.interface_of m.number_of m.represents reports.live

-- a trace was fed this text, and none of it was refused
abbrev pub HasJudged : {A C : Type 0} → Machine C A → List ℕ → ReportReading A C → Type 0
HasJudged m text reports = WasFed m text reports.live × (reports.refused ≡ None)

-- a trace was fed this text, has refused none of it, and has not ended
abbrev pub WasRead : {A C : Type 0} → Machine C A → List ℕ → Reading A C → Type 0
WasRead m text (Report reports) = HasJudged m text reports
WasRead m text (Rows rows) = HasPrintedRows m text rows
WasRead m text Ended = ⊥

-- a trace that has not ended was fed some text, or it refused
abbrev pub IsSound : {A C : Type 0} → Machine C A → Reading A C → Type 0
IsSound m (Report reports) = IsJudging m reports
IsSound m (Rows rows) = IsPrintingRows m rows
IsSound m Ended = Unit {0}

-- the same of a scan
abbrev pub IsSoundScan : ScanMachine → Option Scanning → Type 0
IsSoundScan m (Some s) = IsSound m s.reading
IsSoundScan m None = Unit {0}

abbrev pub WasScanned : ScanMachine → List ℕ → Option Scanning → Type 0
WasScanned m text (Some s) = WasRead m text s.reading
WasScanned m text None = ⊥

-- whether rows are printed, and not reports asked for
abbrev pub prints_rows : {A C : Type 0} → Reading A C → Bool
prints_rows (Rows rows) = true
prints_rows _ = false

-- whether the trace has ended
abbrev pub has_ended : {A C : Type 0} → Reading A C → Bool
has_ended Ended = true
has_ended _ = false

-- the same of a scan
abbrev pub scan_prints_rows : Option Scanning → Bool
scan_prints_rows (Some s) = prints_rows s.reading
scan_prints_rows None = false

abbrev pub scan_ended : Option Scanning → Bool
scan_ended (Some s) = has_ended s.reading
scan_ended None = false

-- what waits with more of a text: what its rows found, or where rows are printed their objects, and nothing else
abbrev pub Brings : (of_rows : Bool) → (text text_after : List ℕ) → (found found_after : List Finding) → (waits waits_after : List ℕ) → Type 0
Brings false text text_after found found_after waits waits_after = HasFound found found_after (findings_of text) (findings_of text_after) × (waits_after ≡ waits)
Brings true text text_after found found_after waits waits_after = (found_after ≡ found) × AddsRows (ended_lines text) (ended_lines text_after) waits waits_after

-- a scan that was fed a text was fed more in the same form, and has what it brings
abbrev pub HasRead : ScanMachine → (text text_after : List ℕ) → Scanning → Scanning → Type 0
HasRead m text text_after s t = WasRead m text_after t.reading × (prints_rows t.reading ≡ prints_rows s.reading) × Brings (prints_rows s.reading) text text_after (waiting s.found) (waiting t.found) (waiting s.text) (waiting t.text)

-- what the rows before the faulty line of a text found waits
abbrev pub HasFoundBefore : (text text_after : List ℕ) → Scanning → Scanning → Type 0
HasFoundBefore text text_after s t = HasFound (waiting s.found) (waiting t.found) (findings_of text) (findings_of text_after)

-- the objects of the rows before the faulty line of a text wait, unless memory was refused to them
abbrev pub HasRowsBefore : (text text_after : List ℕ) → Scanning → Scanning → Type 0
HasRowsBefore text text_after s t = refusals t.text ≡ refusals s.text → AddsRows (ended_lines text) (good_lines (early text_after) (ended_lines text_after)) (waiting s.text) (waiting t.text)

-- the line that writes a packet
abbrev pub packet_line : (number : ℕ) → (side : Side) → (octets : List ℕ) → List ℕ
packet_line number side octets = row_text (record { number = number; side = side; octets = octets; gap = None })

-- what waits with the report of a text in a form: its lines or their objects, or these objects after those of rows
abbrev pub with_report : (form : ℕ) → (text waits : List ℕ) → List ℕ
with_report form text waits = if form == 0 then trace_report text else if form == 1 then json_text (trace_report text) else waits ++ json_text (trace_report text)

-- a text has no fault, and its report in a form waits
pub record HasReport (form : ℕ) (text : List ℕ) (s t : Scanning) : Type 0 where
  pub sound : fault text ≡ None
  pub waits : waiting t.text ≡ with_report form text (waiting s.text)

-- the number of a fault
abbrev pub number_of : Fault → ℕ
number_of (Trace line kind) = 2
number_of _ = 1

-- a scan keeps the line by which a text is refused
pub record KeepsFault (at : Option (ℕ × Kind)) (s : Scanning) : Type 0 where
  pub line : ℕ
  pub kind : Kind
  pub is : at ≡ Some (line, kind)
  pub kept : s.refused ≡ Some (line, kind)

-- the same at the end of a text of rows, whose last line may have no room for its line feed
pub record KeepsEndFault (text : List ℕ) (s : Scanning) : Type 0 where
  pub line : ℕ
  pub kind : Kind
  pub is : (fault text ≡ Some (line, kind)) ⊎ IsFull text kind
  pub kept : s.refused ≡ Some (line, kind)

-- what was read and what waits is as it was
abbrev pub Keeps : Scanning → Scanning → Type 0
Keeps s t = (t.reading ≡ s.reading) × (t.found ≡ s.found) × (t.text ≡ s.text)

-- a fact of what a scan holds before and after a call
abbrev pub OfScans : (Scanning → Scanning → Type 0) → (before after : Option Scanning) → Type 0
OfScans Fact (Some s) (Some t) = Fact s t
OfScans Fact (Some s) None = ⊥
OfScans Fact None after = Unit {0}
