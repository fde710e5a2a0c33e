-- The text of a trace that is made of the frames of a capture.
use Rattle.std.specs.Prelude.{◌≡◌, ℕ, ◌≤◌, Bool, true, false, List, [], ◌++◌, Option, None, Some, drop, length, option_map}
use Rattle.capture_report.specs.CircuitChannels.{channel_of}
use Rattle.capture_report.specs.CircuitRows.{PrintedRows}
use Rattle.capture_report.specs.Circuits.{Step, dropped_steps, frame_steps, rows_of_steps, steps_from}
use Rattle.capture_report.specs.Contents.{Row}
use Rattle.capture_report.specs.Records.{Record}
use Rattle.capture_report.specs.Rows.{record_rows, rows_from}
use Rattle.capture_report.specs.Segments.{reader_of}
use Rattle.capture_report.specs.Texts.{Page, rows_printed}
use Rattle.capture_report.specs.declared.reader.CircuitReader.{CircuitReader}
use Rattle.capture_report.specs.declared.reader.Reader.{Reader}
use Rattle.capture_report.specs.declared.reader.Reader.TheVariants.{Circuits, Line}

-- the text of the rows that a reader has read, and what prints the rows after them
abbrev pub page_of : Reader → Page
page_of (Line r) = r.page
page_of (Circuits r) = r.page.page

abbrev pub cleared : Reader → Reader
cleared (Line r) = Line (record r { page = record r.page { text = [] } })
cleared (Circuits r) = Circuits (record r { page = record r.page { page = record r.page.page { text = [] } } })

-- the rows of steps, as a page of circuits prints them
abbrev pub rows_on : PrintedRows → List Step → List Row
rows_on p steps = rows_of_steps p.rule (channel_of p.channels) steps

-- the rows of what comes next in a capture
abbrev pub circuit_rows_next : Record → CircuitReader → List Row
circuit_rows_next next r = rows_on r.page (dropped_steps next.dropped (reader_of r.frames) ++ frame_steps next.frame (reader_of r.frames))

abbrev pub rows_next : Record → Reader → List Row
rows_next next (Line r) = record_rows r.order next r.line
rows_next next (Circuits r) = circuit_rows_next next r

-- the rows of what a capture has, with those that come at its end
abbrev pub rows_of : Reader → List Record → List Row
rows_of (Line r) records = rows_from r.order r.line records
rows_of (Circuits r) records = rows_on r.page (steps_from (reader_of r.frames) records)

-- the text of what a capture has, as a reader makes it
abbrev pub rows_text : Reader → List Record → List ℕ
rows_text r records = rows_printed (page_of r).printer (rows_of r records)

-- what is left of a trace, of which the text that was made is given up to a place
abbrev pub text_left : Option (List Record) → Reader → (to : ℕ) → Option (List ℕ)
text_left None r to = None
text_left (Some records) r to = Some (drop to (page_of r).text ++ rows_text r records)

-- the bytes that are left, and those that were given last
pub record Made : Type 0 where
  pub left : Option (List ℕ)
  pub latest : List ℕ

-- the text of what came next was made: that of the rest goes on behind it
pub record GoesOn (before after : Reader) (records rest : List Record) : Type 0 where
  pub same : (page_of before).text ++ rows_text before records ≡ (page_of after).text ++ rows_text after rest

-- nothing is left, and no text comes at the end
pub record IsAtEnd (reader : Reader) (rest : List Record) : Type 0 where
  pub none : rest ≡ []
  pub no_text : rows_text reader rest ≡ []

-- the capture had ended, and the text of what comes at its end was made
pub record HasEnded (before after : Reader) (records : List Record) : Type 0 where
  pub none : records ≡ []
  pub goes_on : GoesOn before after records []
  pub no_text : rows_text after [] ≡ []

abbrev pub IsMade : (before after : Option (List Record)) → (old new : Reader) → Bool → Type 0
IsMade before after old new true = (records : List Record) → before ≡ Some records → (rest : List Record) × (after ≡ Some rest) × GoesOn old new records rest
IsMade before after old new false = (records : List Record) → before ≡ Some records → (after ≡ Some []) × HasEnded old new records

abbrev pub IsFilling : (before after : Option (List Record)) → (old new : Reader) → Type 0
IsFilling before after old new = (records : List Record) → before ≡ Some records → (rest : List Record) × (after ≡ Some rest) × GoesOn old new records rest

-- the same until there is some text, or the capture ends
pub record HasFilled (before after : Reader) (records rest : List Record) : Type 0 where
  pub goes_on : GoesOn before after records rest
  pub some : length (page_of after).text ≤ 0 → IsAtEnd after rest

abbrev pub IsFilled : (before after : Option (List Record)) → (old new : Reader) → Type 0
IsFilled before after old new = (records : List Record) → before ≡ Some records → (rest : List Record) × (after ≡ Some rest) × HasFilled old new records rest

-- what was left of a trace is the text that was made, from a place on, and that of the rest; there is none only at the end
pub record Stands (text : List ℕ) (reader : Reader) (place : ℕ) (rest : List Record) : Type 0 where
  pub same : text ≡ drop place (page_of reader).text ++ rows_text reader rest
  pub some : length (page_of reader).text ≤ place → IsAtEnd reader rest

abbrev pub IsReady : (left : Option (List ℕ)) → Option (List Record) → Reader → (place : ℕ) → Type 0
IsReady left after reader place = (text : List ℕ) → left ≡ Some text → (rest : List Record) × (after ≡ Some rest) × Stands text reader place rest

-- the bytes that are left of a trace, where some of those that it made last were passed on
abbrev pub bytes_left : (given : ℕ) (latest : List ℕ) → (left : Option (List ℕ)) → Option (List ℕ)
bytes_left given latest left = option_map (λ rest. drop given latest ++ rest) left
