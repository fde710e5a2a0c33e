-- The trace of a capture that is read once, from a pipe.
use Rattle.std.specs.Prelude.{◌≡◌, ℕ, ◌||◌, Bool, true, false, List, [], ◌∷◌, ◌++◌, Option, None, Some, is_some, option_map, unwrap_or, if◌then◌else◌}
use Rattle.std.specs.Option.{option_and_then, option_or, option_to_list}
use Rattle.line_model.specs.basics.Records as trace
use Rattle.line_model.specs.declared.interface.Interface.{Interface}
use Rattle.line_model.specs.text.Header.{interface_with}
use Rattle.capture_files.specs.CaptureFiles.{records_of}
use Rattle.capture_model.specs.Frames.{Frame}
use Rattle.capture_model.specs.Kinds.{kind_of_link}
use Rattle.capture_model.specs.LinkHeaders.{header_of}
use Rattle.capture_model.specs.declared.kind.LinkKind.{LinkKind}
use Rattle.capture_model.specs.declared.kind.LinkKind.TheVariants as kind
use Rattle.capture_rows.specs.declared.line.Line.{Line as AnyLine}
use Rattle.capture_report.specs.CaptureTexts.{head_lines, line_by, options_with}
use Rattle.capture_report.specs.Headers.{has_packets, numbers_with}
use Rattle.capture_report.specs.Records.{Record}
use Rattle.capture_report.specs.Rows.{after_record, record_rows, rows_from}
use Rattle.capture_report.specs.Sights.{Sight, first_sight, look_of, record_sight, sight_of}
use Rattle.capture_report.specs.Texts.{Page, first_printer, rows_printed, with_rows}
use Rattle.capture_report.specs.TraceRows.{trace_rows}
use Rattle.capture_report.specs.Traces.{text_left}
use Rattle.capture_report.specs.declared.header.Seen.{Seen}
use Rattle.capture_report.specs.declared.options.CaptureOptions.{CaptureOptions}
use Rattle.capture_report.specs.declared.piped.LineStart.{LineStart}
use Rattle.capture_report.specs.declared.reader.Order.TheVariants.{Noticed}
use Rattle.capture_report.specs.declared.reader.Reader.{Reader}
use Rattle.capture_report.specs.declared.row_source.RowSource.{RowSource}
use Rattle.capture_report.specs.declared.row_source.RowSource.TheVariants.{Line, Xot}

-- ---- its first frame

-- what comes before the first frame is passed over
abbrev pub from_frame : List Record → List Record
from_frame [] = []
from_frame (r ∷ rs) = if is_some r.frame then r ∷ rs else from_frame rs

-- the link header that an unknown link type likely has by the first frame, where none is given
abbrev pub likely_of : CaptureOptions → Frame → Option LinkKind
likely_of o f = if is_some o.choices.unknown || is_some (kind_of_link f.link) then None else look_of f

-- the interface of a frame: that of its link header where it has one
abbrev pub interface_of : Option LinkKind → Frame → ℕ
interface_of None f = f.interface
interface_of (Some k) f = unwrap_or (header_of k f).index f.interface

-- the interface that is chosen, or that of the first frame
abbrev pub on_interface : CaptureOptions → Frame → CaptureOptions
on_interface o f = record o { choices = record o.choices { interface = Some (unwrap_or o.choices.interface (interface_of (option_or (kind_of_link f.link) o.choices.unknown) f)) } }

-- how a capture is read, by its first frame
abbrev pub options_by : CaptureOptions → Frame → CaptureOptions
options_by o f = on_interface (options_with (likely_of o f) o) f

-- link headers of networks, on which XOT is
abbrev pub is_network : Option LinkKind → Bool
is_network None = false
is_network (Some kind.Lapb) = false
is_network (Some kind.DirectedLapb) = false
is_network (Some kind.CheckedLapb) = false
is_network (Some kind.Packet) = false
is_network (Some kind.DirectedPacket) = false
is_network (Some k) = true

abbrev pub source_if : (chosen : Option RowSource) → (network : Bool) → RowSource
source_if (Some s) network = s
source_if None true = Xot
source_if None false = Line

-- what carries the packets: what is chosen, otherwise what the link type of the first frame says
abbrev pub source_by : CaptureOptions → Frame → RowSource
source_by o f = source_if o.source (is_network (option_or (kind_of_link f.link) o.choices.unknown))

-- ---- the rows of its line

-- a line of which rows are read: the rows that were read, and what they show
pub record Reading : Type 0 where
  pub line : AnyLine
  pub page : Page
  pub sight : Sight

abbrev pub reading_of : LineStart → Reading
reading_of s = record { line = s.line; page = s.page; sight = sight_of s.survey }

abbrev pub first_reading : CaptureOptions → Reading
first_reading o = record { line = line_by o; page = record { printer = first_printer true o.is_swapped; text = [] }; sight = first_sight o.choices.unknown }

abbrev pub after_next : Record → Reading → Reading
after_next r s = record { line = after_record r s.line; page = with_rows s.page (record_rows Noticed r s.line); sight = record_sight s.line r s.sight }

-- the text of the rows that were read, and of those that are left, as they are noticed
abbrev pub text_from : Reading → List Record → List ℕ
text_from s records = s.page.text ++ rows_printed s.page.printer (rows_from Noticed s.line records)

-- what is seen up to the first packet
abbrev pub sight_to_packet : AnyLine → List Record → Sight → Sight
sight_to_packet l [] s = s
sight_to_packet l (r ∷ rs) s = if has_packets s.seen.beginning then s else sight_to_packet (after_record r l) rs (record_sight l r s)

-- gaps may come
abbrev pub gaps_expected : Seen → Seen
gaps_expected v = record v { has_gaps = true }

-- ---- its trace

-- what is seen of the header: whether the recording began in the middle, as the first packet shows
abbrev pub seen_once : CaptureOptions → List Record → Seen
seen_once o records = gaps_expected (sight_to_packet (line_by o) records (first_sight o.choices.unknown)).seen

-- the header of what is given, and the rows as they are noticed
abbrev pub line_once : CaptureOptions → List Record → Option (List ℕ)
line_once o records = option_map (λ head. head ++ text_from (first_reading o) records) (head_lines o.header (seen_once o records))

-- the line of a capture, from its first frame on, and how it is read
pub record PipedLine : Type 0 where
  pub options : CaptureOptions
  pub records : List Record

-- circuits are not read from a pipe
abbrev pub carried_once : RowSource → CaptureOptions → List Record → Option PipedLine
carried_once Line o records = Some (record { options = o; records = records })
carried_once Xot o records = None

abbrev pub framed_once : Option Frame → CaptureOptions → List Record → Option PipedLine
framed_once None o records = None
framed_once (Some f) o records = carried_once (source_by (options_by o f) f) (options_by o f) records

abbrev pub begun_once : CaptureOptions → List Record → Option PipedLine
begun_once o [] = None
begun_once o (r ∷ rs) = framed_once r.frame o (r ∷ rs)

abbrev pub piped_line : CaptureOptions → List Record → Option PipedLine
piped_line o records = begun_once o (from_frame records)

abbrev pub piped_text : CaptureOptions → List Record → Option (List ℕ)
piped_text o records = option_and_then (λ l. line_once l.options l.records) (piped_line o records)

-- the interface of its header
abbrev pub piped_interface : CaptureOptions → List Record → Option Interface
piped_interface o records = option_and_then (λ l. interface_with (numbers_with l.options.header (seen_once l.options l.records))) (piped_line o records)

-- its rows, as the trace has them
abbrev pub numbered_once : Option PipedLine → List trace.Row
numbered_once None = []
numbered_once (Some l) = trace_rows (first_printer true l.options.is_swapped) (rows_from Noticed (line_by l.options) l.records)

abbrev pub piped_rows : CaptureOptions → List Record → List trace.Row
piped_rows o records = numbered_once (piped_line o records)

-- ---- its reading

-- a capture went on to its first frame, or to its end
abbrev pub IsAtFrame : (before after : Option (List Record)) → (latest : Option Record) → Bool → Type 0
IsAtFrame before after latest true = (records : List Record) → before ≡ Some records → (rest : List Record) × (after ≡ Some rest) × (from_frame records ≡ option_to_list latest ++ rest)
IsAtFrame before after latest false = (records : List Record) → before ≡ Some records → from_frame records ≡ []

-- what it says of missing frames was passed over
abbrev pub IsPassedOver : (before after : Option (List Record)) → Type 0
IsPassedOver before after = (records : List Record) → before ≡ Some records → (rest : List Record) × (after ≡ Some rest) × (from_frame records ≡ from_frame rest)

-- what was read of a line, and then the rest, is what is read of the whole
pub record GoesOnFrom (records rest : List Record) (before after : Reading) : Type 0 where
  pub text : text_from before records ≡ text_from after rest
  pub sight : sight_to_packet before.line records before.sight ≡ sight_to_packet after.line rest after.sight

-- a line was read from what was given last, up to some place
abbrev pub IsStarted : (left : Option (List Record)) → (latest : Option Record) → (after : Option (List Record)) → Reading → Reading → Type 0
IsStarted left latest after old new = (records : List Record) → left ≡ Some records → (rest : List Record) × (after ≡ Some rest) × GoesOnFrom (option_to_list latest ++ records) rest old new

-- the same up to what was given last at that place
abbrev pub IsStarting : (left : Option (List Record)) → (latest : Option Record) → (after : Option (List Record)) → (next : Option Record) → Reading → Reading → Type 0
IsStarting left latest after next old new = (records : List Record) → left ≡ Some records → (rest : List Record) × (after ≡ Some rest) × GoesOnFrom (option_to_list latest ++ records) (option_to_list next ++ rest) old new

-- a reader gives the rest of the trace of a line, of which this was given last
abbrev pub IsLineBegun : CaptureOptions → (left : Option (List Record)) → (latest : Option Record) → (after : Option (List Record)) → Reader → Type 0
IsLineBegun o left latest after reader = (records : List Record) → left ≡ Some records → (rest : List Record) × (after ≡ Some rest) × (line_once o (option_to_list latest ++ records) ≡ text_left (Some rest) reader 0)

-- a reader gives the rest of the trace of a capture
abbrev pub IsPipedReader : CaptureOptions → (left after : Option (List Record)) → Reader → Type 0
IsPipedReader o left after reader = (records : List Record) → left ≡ Some records → (rest : List Record) × (after ≡ Some rest) × (piped_text o records ≡ text_left (Some rest) reader 0)

-- what is left of the text is the trace of a file without damage
abbrev pub IsPipedText : CaptureOptions → (file : Option (List ℕ)) → (text : Option (List ℕ)) → Type 0
IsPipedText o file text = (records : List Record) → option_and_then (records_of false 0) file ≡ Some records → text ≡ piped_text o records
