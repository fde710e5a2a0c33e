-- The trace of a line that is read once has the rows of its records, where it has no fault.
use Rattle.std.proofs.Common.{◌≡◌, ◌∙◌, ap, subst, refl, ℕ, Bool, true, false, List, [], ◌∷◌, ◌++◌, Option, None, Some}
use Rattle.std.specs.Prelude.{IfSome, is_some, option_map, if◌then◌else◌}
use Rattle.std.specs.List.{AllByRecursion}
use Rattle.std.specs.Option.{option_and_then}
use Rattle.line_model.specs.declared.interface.Interface.{Interface}
use Rattle.line_model.specs.text.Header.{interface_with}
use Rattle.line_model.specs.text.Text.{fault}
use Rattle.capture_model.specs.Frames.{Frame}
use Rattle.lapb_link.specs.Ends.{by_address}
use Rattle.capture_report.specs.CaptureTexts.{line_by}
use Rattle.capture_report.specs.Given.{has_ranges}
use Rattle.capture_report.specs.HeaderTexts.{head_text, header_line}
use Rattle.capture_report.specs.Headers.{numbers_with}
use Rattle.capture_report.specs.Laws.{HasRows, IsRecord, PipeLaw}
use Rattle.capture_report.specs.Piped.{PipedLine, begun_once, carried_once, first_reading, framed_once, from_frame, line_once, numbered_once, options_by, piped_line, seen_once, source_by, text_from}
use Rattle.capture_report.specs.Records.{Record}
use Rattle.capture_report.specs.Rows.{rows_from}
use Rattle.capture_report.specs.Texts.{first_printer}
use Rattle.capture_report.specs.TraceRows.{trace_rows}
use Rattle.capture_report.specs.declared.options.CaptureOptions.{CaptureOptions}
use Rattle.capture_report.specs.declared.reader.Order.TheVariants.{Noticed}
use Rattle.capture_report.specs.declared.row_source.RowSource.{RowSource}
use Rattle.capture_report.specs.declared.row_source.RowSource.TheVariants.{Line, Xot}
use Rattle.capture_report.proofs.CaptureFileLemmas.{file_records}
use Rattle.capture_report.proofs.CaptureRowLemmas.{rows_law}
use Rattle.capture_report.proofs.HeaderTextLemmas.{head_content, head_is_read, header_read}
use Rattle.capture_report.proofs.TraceTextLemmas.{sound_law}

-- ---- the records of the line

from_frame_records : (records : List Record) → AllByRecursion IsRecord records → AllByRecursion IsRecord (from_frame records)
from_frame_records [] h = tt
from_frame_records (r ∷ rs) h = at (is_some r.frame) (from_frame_records rs h.1)
  where
    at : (b : Bool) → AllByRecursion IsRecord (from_frame rs) → AllByRecursion IsRecord (if b then r ∷ rs else from_frame rs)
    at true later = h
    at false later = later

abbrev HasRecords : Option PipedLine → Type 0
HasRecords l = IfSome l (λ l. AllByRecursion IsRecord l.records)

carried_records : (s : RowSource) (o : CaptureOptions) (records : List Record) → AllByRecursion IsRecord records → HasRecords (carried_once s o records)
carried_records Line o records h = h
carried_records Xot o records h = tt

framed_records : (f : Option Frame) (o : CaptureOptions) (records : List Record) → AllByRecursion IsRecord records → HasRecords (framed_once f o records)
framed_records None o records h = tt
framed_records (Some f) o records h = carried_records (source_by (options_by o f) f) (options_by o f) records h

begun_records : (o : CaptureOptions) (records : List Record) → AllByRecursion IsRecord records → HasRecords (begun_once o records)
begun_records o [] h = tt
begun_records o (r ∷ rs) h = framed_records r.frame o (r ∷ rs) h

-- ---- its text

text_read : (o : CaptureOptions) (records : List Record) (i : Interface) (text : List ℕ) → AllByRecursion IsRecord records → head_text i (seen_once o records) o.header ++ text_from (first_reading o) records ≡ text → fault text ≡ None
    → HasRows text i (trace_rows (first_printer true o.is_swapped) (rows_from Noticed (line_by o) records))
text_read o records i text h same sound =
    let v = seen_once o records in
    let are = rows_law Noticed (line_by o) records (record { modulus = o.modulus; ends = by_address; new = refl }) h in
    subst (λ text. HasRows text i (trace_rows (first_printer true o.is_swapped) (rows_from Noticed (line_by o) records))) same
    (sound_law i (head_text i v o.header) (header_line (has_ranges o.header) i) true o.is_swapped (rows_from Noticed (line_by o) records) (head_content i v o.header) (header_read (has_ranges o.header) i) (head_is_read i v o.header).whole are (ap fault same ∙ sound))

text_with : (o : CaptureOptions) (records : List Record) (text : List ℕ) → AllByRecursion IsRecord records → (found : Option Interface)
    → option_map (λ head. head ++ text_from (first_reading o) records) (option_map (λ i. head_text i (seen_once o records) o.header) found) ≡ Some text → fault text ≡ None
    → (i : Interface) × (found ≡ Some i) × HasRows text i (trace_rows (first_printer true o.is_swapped) (rows_from Noticed (line_by o) records))
text_with o records text h None same sound = cc same
text_with o records text h (Some i) same sound = (i, refl, text_read o records i text h (cc same) sound)

line_read : (l : Option PipedLine) (text : List ℕ) → HasRecords l → option_and_then (λ l. line_once l.options l.records) l ≡ Some text → fault text ≡ None
    → (i : Interface) × (option_and_then (λ l. interface_with (numbers_with l.options.header (seen_once l.options l.records))) l ≡ Some i) × HasRows text i (numbered_once l)
line_read None text h same sound = cc same
line_read (Some l) text h same sound = text_with l.options l.records text h (interface_with (numbers_with l.options.header (seen_once l.options l.records))) same sound

pub pipe_law : PipeLaw
pipe_law o octets records text h is same sound = line_read (piped_line o records) text (begun_records o (from_frame records) (from_frame_records records (file_records false octets records h is))) same sound
