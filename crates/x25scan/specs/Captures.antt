-- What the program writes of a capture.
use Rattle.std.specs.Prelude.{◌≡◌, ℕ, ◌<◌, ◌&&◌, ◌||◌, Bool, true, false, List, [], Option, Some, is_some}
use Rattle.hex.specs.Hex.{IsBytes}
use Rattle.line_model.specs.basics.Device.{with_more}
use Rattle.line_model.specs.basics.Records.{Row}
use Rattle.line_model.specs.declared.interface.Interface.{Interface}
use Rattle.line_model.specs.observer.Report.{report}
use Rattle.line_model.specs.packets.Says.{items_of}
use Rattle.streams.specs.declared.progress.ShowProgress.{ShowProgress}
use Rattle.capture_files.specs.CaptureFiles.{records_of}
use Rattle.capture_report.specs.CaptureTexts.{capture_text, interface_seen, numbered_rows, source_in}
use Rattle.capture_report.specs.Given.{is_unnamed}
use Rattle.capture_report.specs.Recordings.{begins_as_capture}
use Rattle.capture_report.specs.Records.{Record}
use Rattle.capture_report.specs.declared.options.CaptureOptions.{CaptureOptions}
use Rattle.capture_report.specs.declared.row_source.RowSource.{RowSource}
use Rattle.capture_report.specs.declared.row_source.RowSource.TheVariants as carried
use Rattle.clap.specs.Words.{Text as Word}
use Rattle.descriptions.specs.Circuits.{Circuit}
use Rattle.command_line.specs.Asked.{AskedWords, Trace, further_of}
use Rattle.command_line.specs.Options.{words_fault}
use Rattle.command_line.specs.Program.{report_in}
use Rattle.command_line.specs.declared.asked.AskedReport.{AskedReport}
use Rattle.command_line.specs.declared.asked.TraceOutput.{TraceOutput}
use Rattle.command_line.specs.declared.asked.TraceOutput.TheVariants.{Report, Text}

-- the report of one observer over rows
abbrev pub rows_report : Interface → List Row → List ℕ
rows_report i rows = report i (items_of i rows)

-- octets are those of a pcap or pcapng file without damage, which has these records
pub record IsCapture (octets : List ℕ) (records : List Record) : Type 0 where
  pub bytes : IsBytes octets
  pub begins : begins_as_capture octets ≡ true
  pub whole : records_of true 0 octets ≡ Some records

-- frames of a line carry the packets
abbrev pub is_line : Option RowSource → Bool
is_line (Some carried.Line) = true
is_line s = false

-- there is a trace: always of a line where no number of the header is given, otherwise as the definition of the trace says
abbrev pub HasTrace : CaptureOptions → List Record → Type 0
HasTrace o records = (is_unnamed o.header && is_line (source_in o records) || is_some (capture_text o records)) ≡ true

-- a sink accepted the report of one observer over the rows of a capture, under the interface of what is given and what was seen; as objects
-- with those of circuits
pub record HasCaptureReport (o : CaptureOptions) (records : List Record) (json : Bool) (before after : Option (List ℕ)) : Type 0 where
  pub interface : Interface
  pub seen : interface_seen o records ≡ Some interface
  pub circuits : List Circuit
  pub taken : after ≡ with_more before (report_in json circuits (rows_report interface (numbered_rows o records interface)))

-- the words ask for the report of a file, and the system shows that it is such a capture: a status below 2 says that the sink accepted the report
-- of its rows, as these options read them
abbrev pub ReportsCaptures : (files : List ℕ → Option (List ℕ)) → CaptureOptions → AskedWords → (before after : Option (List ℕ)) → (status : ℕ) → Type 0
ReportsCaptures files o asked before after status =
    (name : List ℕ) (progress : ShowProgress) (report : AskedReport) (given : CaptureOptions) (octets : List ℕ) (records : List Record) → asked ≡ Trace (Some name) progress (Report report) given → files name ≡ Some octets → IsCapture octets records
    → HasTrace o records → status < 2 → HasCaptureReport o records report.json before after

-- the words ask for the text of its trace: a status below 2 says that the sink accepted it
abbrev pub PrintsCaptures : (files : List ℕ → Option (List ℕ)) → CaptureOptions → AskedWords → (before after : Option (List ℕ)) → (status : ℕ) → Type 0
PrintsCaptures files o asked before after status =
    (name : List ℕ) (progress : ShowProgress) (given : CaptureOptions) (octets : List ℕ) (records : List Record) (text : List ℕ) → asked ≡ Trace (Some name) progress Text given → files name ≡ Some octets → IsCapture octets records → capture_text o records ≡ Some text
    → status < 2 → after ≡ with_more before text

-- words without a fault name these captures after the trace
abbrev pub AsksFurther : (words : List Word) → (further : List Word) → Type 0
AsksFurther words further = words_fault words ≡ [] → further ≡ further_of words

-- words that ask for a trace ask for captures to be read so
abbrev pub AsksOptions : AskedWords → CaptureOptions → Type 0
AsksOptions asked o = (name : Option (List ℕ)) (progress : ShowProgress) (output : TraceOutput) (given : CaptureOptions) → asked ≡ Trace name progress output given → o ≡ given
