-- Files as the program reads them: a trace as it is, and a capture as its trace.
use Rattle.std.specs.Prelude.{◌≡◌, ℕ, ◌==◌, nat_lt, Bool, true, false, List, [], ◌∷◌, Option, None, Some, length, if◌then◌else◌}
use Rattle.std.specs.List.{list_any}
use Rattle.std.specs.declared.io.traits.Read.{Ghosts as Read}
use Rattle.std.specs.Io.Chain.{chain_remaining}
use Rattle.std.specs.Io.Cursor.{cursor_remaining}
use Rattle.streams.specs.Shown.{shown}
use Rattle.capture_files.specs.Numbers.{number}
use Rattle.capture_report.specs.CaptureTexts.{capture_counts, capture_halves, capture_text, captured, line_by, trace_by}
use Rattle.capture_report.specs.LineSides.{half_of}
use Rattle.capture_report.specs.Records.{Record}
use Rattle.capture_report.specs.Rows.{rows_from}
use Rattle.capture_report.specs.Sights.{sight_of}
use Rattle.capture_report.specs.Traces.{bytes_left, text_left}
use Rattle.capture_report.specs.declared.begun_file.BegunFile.{BegunFile}
use Rattle.capture_report.specs.declared.capture_text.CaptureText.{CaptureText}
use Rattle.capture_report.specs.declared.first_reading.CountedReader.{CountedReader}
use Rattle.capture_report.specs.declared.first_reading.FirstReading.{FirstReading}
use Rattle.capture_report.specs.declared.halves.Halves.{Halves}
use Rattle.capture_report.specs.declared.halves.Halves.TheVariants.{Line}
use Rattle.capture_report.specs.declared.options.CaptureOptions.{CaptureOptions}
use Rattle.capture_report.specs.declared.reader.Order.TheVariants.{Placed}
use Rattle.capture_report.specs.declared.reader.Reader.{Reader}
use Rattle.capture_report.specs.declared.reasons.Counts.{Counts}
use Rattle.capture_report.specs.declared.recordings.Recording.{Recording}
use Rattle.capture_report.specs.declared.recordings.Recording.TheVariants.{Trace, Capture, Pipe, Kept}

-- the number with which a capture begins: of pcapng, and of pcap in both byte orders, of its form, of that with modified records
-- and of that with nanoseconds
abbrev pub magics : List ℕ
magics = 168627466 ∷ 2712847316 ∷ 3569595041 ∷ 2712849716 ∷ 885895841 ∷ 2712812621 ∷ 1295823521 ∷ []

abbrev pub is_magic : ℕ → Bool
is_magic n = list_any (λ m. m == n) magics

abbrev pub begins_as_capture : List ℕ → Bool
begins_as_capture octets = if nat_lt (length octets) 4 then false else is_magic (number true octets)

-- what a file shows that is opened as a recording: the trace of a capture, and otherwise its bytes
abbrev pub recorded : CaptureOptions → Option (List ℕ) → Option (List ℕ)
recorded o None = None
recorded o (Some bytes) = if begins_as_capture bytes then captured o (Some bytes) else Some bytes

-- what is left of a file that was begun, where it showed its bytes as it was opened
abbrev pub begun_left : {F : Type 0} → (F → Option (List ℕ)) → BegunFile F → Option (List ℕ)
begun_left left b = shown (left b.first.value) (chain_remaining (cursor_remaining (λ v. Some v.items)) left b.rest)

-- a file that was begun has all that it showed, and whether it is a capture is known
pub record IsOpened {F : Type 0} (left : F → Option (List ℕ)) (bytes : Option (List ℕ)) (b : BegunFile F) : Type 0 where
  pub whole : begun_left left b ≡ bytes
  pub kind : (octets : List ℕ) → bytes ≡ Some octets → b.is_capture ≡ begins_as_capture octets

-- what is left of the trace of a capture: nothing once its end was reached
abbrev pub capture_left : {F : Type 0} (read : Read F) → CaptureText F read → Option (List ℕ)
capture_left read t = if t.is_done then Some [] else bytes_left t.given t.trace.made.latest (if t.trace.has_failed then t.trace.before.value.left else t.trace.made.left)

-- what is left of a recording; a pipe shows nothing
abbrev pub recording_left : {F B : Type 0} (read : Read F) (begun : Read B) → Recording F B read begun → Option (List ℕ)
recording_left read begun (Trace bytes) = begun.remaining bytes
recording_left read begun (Capture text) = capture_left read text
recording_left read begun (Pipe text) = None
recording_left read begun (Kept text) = None

-- ---- the reading of the rows

-- a reader gives the trace of a line, as its first reading shows it
abbrev pub IsLineReader : FirstReading → Reader → Type 0
IsLineReader first reader = (records : List Record) → text_left (Some records) reader 0 ≡ trace_by first.options (sight_of first.survey) (rows_from (Placed first.plan) (line_by first.options) records)

-- a reader gives the trace of a capture
abbrev pub IsReaderOf : CaptureOptions → (left : Option (List Record)) → Reader → Type 0
IsReaderOf o left reader = (records : List Record) → left ≡ Some records → text_left (Some records) reader 0 ≡ capture_text o records

-- the same, what was counted, and what was recorded of one side alone
pub record IsLineCounted (first : FirstReading) (r : CountedReader) : Type 0 where
  pub reader : IsLineReader first r.reader
  pub counts : r.counts ≡ (sight_of first.survey).counts
  pub halves : r.halves ≡ Line (half_of first.options.is_swapped (sight_of first.survey).sides)

abbrev pub AreCountsOf : CaptureOptions → (left : Option (List Record)) → Counts → Type 0
AreCountsOf o left counts = (records : List Record) → left ≡ Some records → capture_counts o records ≡ Some counts

abbrev pub AreHalvesOf : CaptureOptions → (left : Option (List Record)) → Halves → Type 0
AreHalvesOf o left halves = (records : List Record) → left ≡ Some records → capture_halves o records ≡ Some halves

pub record IsCountedOf (o : CaptureOptions) (left : Option (List Record)) (r : CountedReader) : Type 0 where
  pub reader : IsReaderOf o left r.reader
  pub counts : AreCountsOf o left r.counts
  pub halves : AreHalvesOf o left r.halves
