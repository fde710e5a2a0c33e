-- The trace of a capture file has the rows of its records, where it has no fault.
use Rattle.std.proofs.Common.{◌≡◌, ◌∙◌, sym, ap, subst, refl, ℕ, ◌+◌, ◌*◌, ◌^◌, ◌<◌, Bool, true, false, List, [], ◌∷◌, ◌++◌, length, Option, None, Some, arith, drop}
use Rattle.std.specs.Prelude.{if◌then◌else◌, option_map}
use Rattle.std.specs.List.{AllByRecursion}
use Rattle.std.proofs.Math.Seq.{drop-append_seam, take-append_seam}
use Rattle.hex.specs.Hex.{IsBytes}
use Rattle.line_model.specs.declared.interface.Interface.{Interface}
use Rattle.line_model.specs.text.Text.{fault}
use Rattle.capture_files.specs.CaptureFiles.{records_by, records_of}
use Rattle.capture_files.specs.Numbers.{next_number, number}
use Rattle.capture_files.specs.PcapFiles.{AreRecords}
use Rattle.capture_files.specs.PcapHeaders.{form_of}
use Rattle.capture_files.specs.PcapRecords.{header_size, line_length, pcap_frame}
use Rattle.capture_files.specs.declared.pcap.PcapForm.{PcapForm}
use Rattle.capture_files.proofs.PcapLaw.{records_law}
use Rattle.lapb_link.specs.Ends.{by_address}
use Rattle.capture_report.specs.CaptureTexts.{has_frame_numbers, interface_by, line_by, line_interface, line_rows, numbered_by, options_of, printer_by, sight_in, source_in, text_by}
use Rattle.capture_report.specs.Given.{has_ranges}
use Rattle.capture_report.specs.HeaderTexts.{head_text, header_line}
use Rattle.capture_report.specs.Laws.{FileLaw, HasRows, IsFrame, IsRecord}
use Rattle.capture_report.specs.Plans.{plan_of}
use Rattle.capture_report.specs.Records.{Record}
use Rattle.capture_report.specs.Rows.{shown_from}
use Rattle.capture_report.specs.Texts.{rows_printed}
use Rattle.capture_report.specs.TraceRows.{trace_rows}
use Rattle.capture_report.specs.declared.options.CaptureOptions.{CaptureOptions}
use Rattle.capture_report.specs.declared.reader.Order.TheVariants.{Placed}
use Rattle.capture_report.specs.declared.row_source.RowSource.{RowSource}
use Rattle.capture_report.specs.declared.row_source.RowSource.TheVariants as carried
use Rattle.capture_report.proofs.CaptureRowLemmas.{rows_law}
use Rattle.capture_report.proofs.CircuitTextLemmas.{circuits_read}
use Rattle.capture_report.proofs.HeaderTextLemmas.{head_content, head_is_read, header_read}
use Rattle.capture_report.proofs.LinkLemmas.{bytes_drop, bytes_take}
use Rattle.capture_report.proofs.PcapngRecordLemmas.{number_small, pcapng_are}
use Rattle.capture_report.proofs.TraceTextLemmas.{sound_law}

-- ---- the records of octets

time_small : (a b : ℕ) (is_nano : Bool) → a < 2 ^ 32 → b < 2 ^ 32 → a * 1000000000 + b * (if is_nano then 1 else 1000) < 2 ^ 128
time_small a b true h k = omega (arith, h, k)
time_small a b false h k = omega (arith, h, k)

frame_is_frame : (f : PcapForm) (n : ℕ) (octets : List ℕ) → n < 2 ^ 64 → IsBytes octets → IsFrame (pcap_frame f n octets)
frame_is_frame f n octets small h = record {
  place = record { frame = small; time = time_small (number f.is_big octets) (number f.is_big (drop 4 octets)) f.is_nano (number_small f.is_big octets h) (number_small f.is_big (drop 4 octets) (bytes_drop 4 octets h)) };
  octets = bytes_take (line_length f octets) (drop (header_size f.header) octets) (bytes_drop (header_size f.header) octets h);
}

are_records : (f : PcapForm) (last : ℕ) (octets : List ℕ) (records : List Record) → IsBytes octets → AreRecords f last octets records → AllByRecursion IsRecord records
are_records f last octets [] h a = tt
are_records f last octets (r ∷ rs) h a =
    let both : IsBytes (a.0 ++ a.1) = subst IsBytes a.2 h in
    let one : IsBytes a.0 = subst IsBytes (take-append_seam a.0 a.1) (bytes_take (length a.0) (a.0 ++ a.1) both) in
    let rest : IsBytes a.1 = subst IsBytes (drop-append_seam a.0 a.1) (bytes_drop (length a.0) (a.0 ++ a.1) both) in
    (subst IsRecord (sym a.4) (tt, frame_is_frame f (next_number last) a.0 (omega arith) one), are_records f (next_number last) a.1 rs rest a.5)

pub file_records : (is_file : Bool) (octets : List ℕ) (records : List Record) → IsBytes octets → records_of is_file 0 octets ≡ Some records → AllByRecursion IsRecord records
file_records is_file octets records h = at (form_of is_file octets)
  where
    at : (form : Option PcapForm) → records_by form 0 octets ≡ Some records → AllByRecursion IsRecord records
    at None e = pcapng_are octets records h e
    at (Some f) e = are_records f 0 (drop 24 octets) records (bytes_drop 24 octets h) ((records_law f 0 (drop 24 octets) records).0 e)

-- ---- the trace of a line

-- a text with the header of an interface
text_read : (o : CaptureOptions) (octets : List ℕ) (records : List Record) (i : Interface) (text : List ℕ) → IsBytes octets → records_of true 0 octets ≡ Some records
    → head_text i (sight_in o records).seen o.header ++ rows_printed (printer_by o (sight_in o records)) (line_rows o records) ≡ text → fault text ≡ None → HasRows text i (trace_rows (printer_by o (sight_in o records)) (line_rows o records))
text_read o octets records i text h is same sound =
    let v = (sight_in o records).seen in
    let line = line_by (options_of o records) in
    let are = rows_law (Placed (plan_of (shown_from line records))) line records (record { modulus = (options_of o records).modulus; ends = by_address; new = refl }) (file_records true octets records h is) in
    subst (λ text. HasRows text i (trace_rows (printer_by o (sight_in o records)) (line_rows o records))) same
    (sound_law i (head_text i v o.header) (header_line (has_ranges o.header) i) (has_frame_numbers (sight_in o records).last) o.is_swapped (line_rows o records) (head_content i v o.header) (header_read (has_ranges o.header) i) (head_is_read i v o.header).whole are (ap fault same ∙ sound))

text_with : (o : CaptureOptions) (octets : List ℕ) (records : List Record) (text : List ℕ) → IsBytes octets → records_of true 0 octets ≡ Some records → (found : Option Interface)
    → option_map (λ head. head ++ rows_printed (printer_by o (sight_in o records)) (line_rows o records)) (option_map (λ i. head_text i (sight_in o records).seen o.header) found) ≡ Some text → fault text ≡ None
    → (i : Interface) × (found ≡ Some i) × HasRows text i (trace_rows (printer_by o (sight_in o records)) (line_rows o records))
text_with o octets records text h is None same sound = cc same
text_with o octets records text h is (Some i) same sound = (i, refl, text_read o octets records i text h is (cc same) sound)

-- ---- the trace of what carries the packets

source_read : (o : CaptureOptions) (octets : List ℕ) (records : List Record) (text : List ℕ) → IsBytes octets → records_of true 0 octets ≡ Some records → (source : Option RowSource)
    → text_by source o records ≡ Some text → fault text ≡ None → (i : Interface) × (interface_by source o records ≡ Some i) × HasRows text i (numbered_by source o records i)
source_read o octets records text h is None same sound = cc same
source_read o octets records text h is (Some carried.Line) same sound = text_with o octets records text h is (line_interface o records) same sound
source_read o octets records text h is (Some carried.Xot) same sound = circuits_read (options_of o records) records text same sound

pub file_law : FileLaw
file_law o octets records text h is = source_read o octets records text h is (source_in o records)
