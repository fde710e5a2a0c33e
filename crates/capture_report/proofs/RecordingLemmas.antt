-- A file that was begun has what it showed as it was opened.
use Rattle.std.proofs.Common.{◌≡◌, ◌∙◌, ℕ, ◌≤◌, ◌<◌, List, [], ◌∷◌, ◌++◌, Option, None, Some, Bool, true, false, inl, inr, length, length-append, sym, ap, refl, arith, append-nil, if◌then◌else◌}
use Rattle.std.proofs.lemmas.Bool.{cases_lt, le-ltb}
use Rattle.std.specs.Io.Chain.{chain_remaining}
use Rattle.std.specs.Io.Cursor.{cursor_remaining}
use Rattle.std.specs.Io.KnownBytes.{Consumes, IsAtEnd}
use Rattle.std.specs.Fmt.{option_append}
use Rattle.streams.specs.Shown.{shown}
use Rattle.capture_files.specs.CaptureFiles.{records_of}
use Rattle.capture_files.specs.Numbers.{number}
use Rattle.capture_files.proofs.RecordLemmas.{number_more}
use Rattle.std.specs.Prelude.{IfOk, Result, option_map}
use Rattle.std.proofs.lemmas.Result.{IfOk-weaker}
use Rattle.std.specs.Option.{option_and_then}
use Rattle.line_model.specs.declared.interface.Interface.{Interface}
use Rattle.line_model.specs.text.Header.{interface_with}
use Rattle.capture_model.specs.declared.kind.LinkKind.{LinkKind}
use Rattle.capture_report.specs.CaptureTexts.{HasShown, IsFirstReading, IsLastReading, capture_text, captured, counts_by, halves_by, likely_in, line_by, line_text, options_of, options_with, printer_by, sight_by, sight_in, source_by, source_in, text_by, trace_by}
use Rattle.capture_report.specs.CircuitReadings.{AreCircuitsCounted, IsCircuitReading}
use Rattle.capture_report.specs.CircuitSights.{CircuitsFound}
use Rattle.capture_report.specs.CircuitTexts.{circuit_text, counts_of_circuits}
use Rattle.capture_report.specs.Circuits.{circuits_of, has_circuits}
use Rattle.capture_report.specs.Contents.{Row}
use Rattle.capture_report.specs.Halves.{halves_of}
use Rattle.capture_report.specs.HeaderTexts.{head_text}
use Rattle.capture_report.specs.Headers.{has_packets, numbers_with}
use Rattle.capture_report.specs.LineSides.{half_of}
use Rattle.capture_report.specs.Recordings.{IsCountedOf, IsLineCounted, IsLineReader, IsOpened, IsReaderOf, begins_as_capture, is_magic, recorded}
use Rattle.capture_report.specs.Records.{Record}
use Rattle.capture_report.specs.Rows.{placed, rows_from}
use Rattle.capture_report.specs.Sights.{Sight, sight_of}
use Rattle.capture_report.specs.Texts.{rows_printed}
use Rattle.capture_report.specs.Traces.{text_left}
use Rattle.capture_report.specs.declared.circuit_reading.CircuitReading.{CircuitReading}
use Rattle.capture_report.specs.declared.circuits.SeenCircuit.{SeenCircuit}
use Rattle.capture_report.specs.declared.first_reading.CountedReader.{CountedReader}
use Rattle.capture_report.specs.declared.first_reading.FirstReading.{FirstReading}
use Rattle.capture_report.specs.declared.halves.Halves.TheVariants as half
use Rattle.capture_report.specs.declared.options.CaptureOptions.{CaptureOptions}
use Rattle.capture_report.specs.declared.begun_file.BegunFile.{BegunFile}
use Rattle.capture_report.specs.declared.reader.Order.TheVariants.{Placed}
use Rattle.capture_report.specs.declared.reader.Reader.{Reader}
use Rattle.capture_report.specs.declared.reader.Reader.TheVariants as read
use Rattle.capture_report.specs.declared.row_source.RowSource.{RowSource}
use Rattle.capture_report.specs.declared.row_source.RowSource.TheVariants.{Line, Xot}
use Rattle.capture_report.proofs.CircuitReadingLemmas.{counts_made, text_made}

long_beginning : (xs : List ℕ) → 4 ≤ length xs → begins_as_capture xs ≡ is_magic (number true xs)
long_beginning xs many = rw (le-ltb (length xs) 4 many) refl

-- the first four octets decide, or all where there are fewer
same_beginning : (front rest : List ℕ) → (length front < 4 → rest ≡ []) → begins_as_capture (front ++ rest) ≡ begins_as_capture front
same_beginning front rest end = elim (cases_lt (length front) 4) as (λ _. begins_as_capture (front ++ rest) ≡ begins_as_capture front) [
  | inl few ↦ ap begins_as_capture (ap (λ l. front ++ l) (end few) ∙ append-nil front)
  | inr many ↦
      long_beginning (front ++ rest) (omega (arith, many, length-append front rest))
      ∙ (ap is_magic (number_more true front rest 0 (omega (arith, many))) ∙ sym (long_beginning front many))
]

known : (bytes front rest : List ℕ) → bytes ≡ front ++ rest → (length front < 4 → rest ≡ []) → begins_as_capture bytes ≡ begins_as_capture front
known bytes front rest parts end = ap begins_as_capture parts ∙ same_beginning front rest end

whole_begun : (first now chained : Option (List ℕ)) (front : List ℕ) → Consumes first now front → chained ≡ option_append (Some front) now → shown first chained ≡ first
whole_begun None now chained front parts chain = refl
whole_begun (Some bytes) None chained front parts chain = absurd parts
whole_begun (Some bytes) (Some rest) chained front parts chain = chain ∙ ap Some (sym parts)

kind_begun : (first now : Option (List ℕ)) (front octets : List ℕ) → Consumes first now front → (length front < 4 → IsAtEnd now) → first ≡ Some octets → begins_as_capture octets ≡ begins_as_capture front
kind_begun None now front octets parts end e = cc e
kind_begun (Some bytes) None front octets parts end e = absurd parts
kind_begun (Some bytes) (Some rest) front octets parts end e = let same : octets ≡ bytes = cc e in ap begins_as_capture same ∙ known bytes front rest parts end

pub opened : {F : Type 0} (left : F → Option (List ℕ)) (file now : F) (front : List ℕ) (b : BegunFile F) → b.first.value ≡ file → Consumes (left file) (left now) front → (length front < 4 → IsAtEnd (left now))
    → chain_remaining (cursor_remaining (λ v. Some v.items)) left b.rest ≡ option_append (Some front) (left now) → b.is_capture ≡ begins_as_capture front → IsOpened left (left file) b
opened left file now front b first parts end chain is = record {
  whole = ap (λ f. shown (left f) (chain_remaining (cursor_remaining (λ v. Some v.items)) left b.rest)) first ∙ whole_begun (left file) (left now) _ front parts chain;
  kind = λ octets e. is ∙ sym (kind_begun (left file) (left now) front octets parts end e);
}

-- ---- a file of either kind

pub opened_trace : (o : CaptureOptions) (bytes left : Option (List ℕ)) (is : Bool) → is ≡ false → ((octets : List ℕ) → bytes ≡ Some octets → is ≡ begins_as_capture octets) → left ≡ bytes → left ≡ recorded o bytes
opened_trace o None left is other kind same = same
opened_trace o (Some octets) left is other kind same = same ∙ sym (ap (λ b. if b then captured o (Some octets) else Some octets) (sym (kind octets refl) ∙ other))

opened_capture : (o : CaptureOptions) (bytes left : Option (List ℕ)) (is : Bool) → is ≡ true → ((octets : List ℕ) → bytes ≡ Some octets → is ≡ begins_as_capture octets) → left ≡ captured o bytes → left ≡ recorded o bytes
opened_capture o None left is begun kind same = same
opened_capture o (Some octets) left is begun kind same = same ∙ sym (ap (λ b. if b then captured o (Some octets) else Some octets) (sym (kind octets refl) ∙ begun))

-- the same of what may be refused
pub opened_recorded : {T E : Type 0} (left : T → Option (List ℕ)) (r : Result T E) (o : CaptureOptions) (bytes : Option (List ℕ)) (is : Bool) → is ≡ true → ((octets : List ℕ) → bytes ≡ Some octets → is ≡ begins_as_capture octets)
    → IfOk r (λ file. left file ≡ captured o bytes) → IfOk r (λ file. left file ≡ recorded o bytes)
opened_recorded left r o bytes is begun kind = IfOk-weaker r (λ file. left file ≡ captured o bytes) (λ file. left file ≡ recorded o bytes) (λ file same. opened_capture o bytes (left file) is begun kind same)

pub last_reading : (o : CaptureOptions) (left : Option (List Record)) (first last : FirstReading) (look : Option LinkKind) → IsFirstReading left first → first.options ≡ o
    → look ≡ likely_in first.options.choices.unknown (sight_of first.survey) → IsFirstReading left last → last.options ≡ options_with look o → IsLastReading o left last
last_reading o left first last look shown given is again same = λ records e. (
  again records e,
  same
      ∙ ap (λ l. options_with l o)
      (is ∙ ap (λ (s : Sight). likely_in first.options.choices.unknown s) ((shown records e).sight) ∙ ap (λ (p : CaptureOptions). likely_in p.choices.unknown (sight_by p records)) given),
)

-- ---- the rows of a capture

same_trace : (look : Option LinkKind) (o : CaptureOptions) (s : Sight) (rows : List Row) → trace_by (options_with look o) s rows ≡ trace_by o s rows
same_trace None o s rows = refl
same_trace (Some kind) o s rows = refl

line_made : (o : CaptureOptions) (records : List Record) (first : FirstReading) (reader : Reader) → HasShown records first → first.options ≡ options_of o records → IsLineReader first reader
    → text_left (Some records) reader 0 ≡ line_text o records
line_made o records first reader shown given is =
    is records
    ∙ ap (trace_by first.options (sight_of first.survey)) shown.rows
    ∙ ap (λ s. trace_by first.options s (placed (line_by first.options) records)) shown.sight
    ∙ ap (λ (p : CaptureOptions). trace_by p (sight_by p records) (placed (line_by p) records)) given
    ∙ same_trace (likely_in o.choices.unknown (sight_by o records)) o (sight_by (options_of o records) records) (placed (line_by (options_of o records)) records)

line_read : (o : CaptureOptions) (left : Option (List Record)) (first : FirstReading) (reader : CountedReader) → IsLastReading o left first → ((records : List Record) → left ≡ Some records → source_in o records ≡ Some Line) → IsLineCounted first reader
    → IsCountedOf o left reader
line_read o left first reader last source is = record {
  reader = λ records e. line_made o records first reader.reader (last records e).0 (last records e).1 is.reader ∙ sym (ap (λ s. text_by s o records) (source records e));
  counts = λ records e.
      ap (λ s. counts_by s o records) (source records e)
      ∙ ap (λ (s : Sight). Some s.counts) (ap (λ p. sight_by p records) (sym (last records e).1) ∙ sym (last records e).0.sight)
      ∙ ap (λ c. Some c) (sym is.counts);
  halves = λ records e.
      ap (λ s. halves_by s o records) (source records e)
      ∙ ap (λ (p : CaptureOptions). Some (half.Line (half_of p.is_swapped (sight_by p records).sides))) (sym (last records e).1)
      ∙ ap (λ (s : Sight). Some (half.Line (half_of first.options.is_swapped s.sides))) (sym (last records e).0.sight)
      ∙ ap (λ h. Some h) (sym is.halves);
}

-- the circuits of a capture
circuits_read_of : (o : CaptureOptions) (left : Option (List Record)) (first : FirstReading) (c : CircuitReading) (records : List Record) (e : left ≡ Some records) → IsLastReading o left first → IsCircuitReading first.options left c
    → c.circuits.circuits ≡ circuits_of (options_of o records) records
circuits_read_of o left first c records e last has = ap (λ (d : CircuitsFound). d.circuits) (has records e).circuits ∙ ap (λ p. circuits_of p records) (last records e).1

circuits_read : (o : CaptureOptions) (left : Option (List Record)) (first : FirstReading) (c : CircuitReading) (reader : CountedReader) → IsLastReading o left first → IsCircuitReading first.options left c
    → ((records : List Record) → left ≡ Some records → source_in o records ≡ Some Xot) → AreCircuitsCounted c reader → IsCountedOf o left reader
circuits_read o left first c reader last has source is = record {
  reader = λ records e.
      text_made first.options records c reader.reader (has records e) is.reader ∙ ap (λ p. circuit_text p records) (last records e).1 ∙ sym (ap (λ s. text_by s o records) (source records e));
  counts = λ records e.
      ap (λ s. counts_by s o records) (source records e)
      ∙ ap (λ p. counts_of_circuits p records) (sym (last records e).1)
      ∙ sym (counts_made first.options records c (has records e))
      ∙ is.counts;
  halves = λ records e.
      ap (λ s. halves_by s o records) (source records e)
      ∙ ap (λ cs. Some (half.Connections (halves_of cs))) (sym (circuits_read_of o left first c records e last has))
      ∙ ap (λ h. Some h) (sym is.halves);
}

-- the lines that stand on the page of a reader of a line, and those of the rows that it reads
pub line_reader_made : (first : FirstReading) (i : Interface) (reader : Reader) (head : List ℕ) → reader ≡ read.Line (record { line = line_by first.options; order = Placed first.plan; page = record { printer = printer_by first.options (sight_of first.survey); text = head } })
    → head ≡ head_text i first.survey.seen first.options.header → interface_with (numbers_with first.options.header first.survey.seen) ≡ Some i → IsLineReader first reader
line_reader_made first i reader head is text header = λ records.
    let printed = rows_printed (printer_by first.options (sight_of first.survey)) (rows_from (Placed first.plan) (line_by first.options) records) in
    ap (λ r. text_left (Some records) r 0) is
    ∙ ap (λ (xs : List ℕ). Some (xs ++ printed)) text
    ∙ sym (ap (λ o. option_map (λ (xs : List ℕ). xs ++ printed) (option_map (λ j. head_text j first.survey.seen first.options.header) o)) header)

-- ---- what carries its packets

chosen : (o : CaptureOptions) (s : RowSource) (records : List Record) → o.source ≡ Some s → source_in o records ≡ Some s
chosen o s records is = ap (λ c. source_by c (has_packets (sight_in o records).seen.beginning) (sight_in o records).internet (circuits_of (options_of o records) records)) is

-- by what the readings show
source_read : (o : CaptureOptions) (first : FirstReading) (records : List Record) → HasShown records first → first.options ≡ options_of o records → (cs : List SeenCircuit) → cs ≡ circuits_of (options_of o records) records
    → o.source ≡ None → source_in o records ≡ source_by None (has_packets first.survey.seen.beginning) first.survey.has_internet cs
source_read o first records shown given cs same open_ =
    let sight : sight_of first.survey ≡ sight_in o records = shown.sight ∙ ap (λ p. sight_by p records) given in
    ap (λ c. source_by c (has_packets (sight_in o records).seen.beginning) (sight_in o records).internet (circuits_of (options_of o records) records)) open_
    ∙ ap (λ (s : Sight). source_by None (has_packets s.seen.beginning) s.internet (circuits_of (options_of o records) records)) (sym sight)
    ∙ ap (source_by None (has_packets first.survey.seen.beginning) first.survey.has_internet) (sym same)

without_circuits : (line internet : Bool) (cs : List SeenCircuit) → has_circuits cs ≡ false → source_by None line internet cs ≡ Some Line
without_circuits line false cs none = refl
without_circuits line true [] none = refl
without_circuits line true (c ∷ cs) none = cc none

with_circuits : (cs : List SeenCircuit) → has_circuits cs ≡ true → source_by None false true cs ≡ Some Xot
with_circuits [] some = cc some
with_circuits (c ∷ cs) some = refl

no_internet : (o : CaptureOptions) (left : Option (List Record)) (first : FirstReading) → IsLastReading o left first → o.source ≡ None → first.survey.has_internet ≡ false → (records : List Record) → left ≡ Some records → source_in o records ≡ Some Line
no_internet o left first last is none records e =
    source_read o first records (last records e).0 (last records e).1 (circuits_of (options_of o records) records) refl is
    ∙ ap (λ b. source_by None (has_packets first.survey.seen.beginning) b (circuits_of (options_of o records) records)) none

no_circuit : (o : CaptureOptions) (left : Option (List Record)) (first : FirstReading) (c : CircuitReading) → IsLastReading o left first → IsCircuitReading first.options left c → o.source ≡ None → has_circuits c.circuits.circuits ≡ false
    → (records : List Record) → left ≡ Some records → source_in o records ≡ Some Line
no_circuit o left first c last has is none records e =
    source_read o first records (last records e).0 (last records e).1 c.circuits.circuits (circuits_read_of o left first c records e last has) is
    ∙ without_circuits (has_packets first.survey.seen.beginning) first.survey.has_internet c.circuits.circuits none

circuits_alone : (o : CaptureOptions) (left : Option (List Record)) (first : FirstReading) (c : CircuitReading) → IsLastReading o left first → IsCircuitReading first.options left c → o.source ≡ None → first.survey.has_internet ≡ true
    → has_packets first.survey.seen.beginning ≡ false → has_circuits c.circuits.circuits ≡ true → (records : List Record) → left ≡ Some records → source_in o records ≡ Some Xot
circuits_alone o left first c last has is internet line some records e =
    source_read o first records (last records e).0 (last records e).1 c.circuits.circuits (circuits_read_of o left first c records e last has) is
    ∙ ap (λ b. source_by None b first.survey.has_internet c.circuits.circuits) line
    ∙ ap (λ b. source_by None false b c.circuits.circuits) internet
    ∙ with_circuits c.circuits.circuits some

-- what reads its rows

read_line : {E : Type 0} (r : Result CountedReader E) (o : CaptureOptions) (left : Option (List Record)) (first : FirstReading) → IsLastReading o left first → ((records : List Record) → left ≡ Some records → source_in o records ≡ Some Line)
    → IfOk r (IsLineCounted first) → IfOk r (IsCountedOf o left)
read_line r o left first last source = IfOk-weaker r (IsLineCounted first) (IsCountedOf o left) (λ reader is. line_read o left first reader last source is)

read_circuits : {E : Type 0} (r : Result CountedReader E) (o : CaptureOptions) (left : Option (List Record)) (first : FirstReading) (c : CircuitReading) → IsLastReading o left first → IsCircuitReading first.options left c
    → ((records : List Record) → left ≡ Some records → source_in o records ≡ Some Xot) → IfOk r (AreCircuitsCounted c) → IfOk r (IsCountedOf o left)
read_circuits r o left first c last has source = IfOk-weaker r (AreCircuitsCounted c) (IsCountedOf o left) (λ reader is. circuits_read o left first c reader last has source is)

pub chosen_line : {E : Type 0} (r : Result CountedReader E) (o : CaptureOptions) (left : Option (List Record)) (first : FirstReading) → IsLastReading o left first → o.source ≡ Some Line → IfOk r (IsLineCounted first) → IfOk r (IsCountedOf o left)
chosen_line r o left first last is = read_line r o left first last (λ records e. chosen o Line records is)

pub chosen_circuits : {E : Type 0} (r : Result CountedReader E) (o : CaptureOptions) (left : Option (List Record)) (first : FirstReading) (c : CircuitReading) → IsLastReading o left first → IsCircuitReading first.options left c → o.source ≡ Some Xot
    → IfOk r (AreCircuitsCounted c) → IfOk r (IsCountedOf o left)
chosen_circuits r o left first c last has is = read_circuits r o left first c last has (λ records e. chosen o Xot records is)

pub line_without_internet : {E : Type 0} (r : Result CountedReader E) (o : CaptureOptions) (left : Option (List Record)) (first : FirstReading) → IsLastReading o left first → o.source ≡ None → first.survey.has_internet ≡ false → IfOk r (IsLineCounted first)
    → IfOk r (IsCountedOf o left)
line_without_internet r o left first last is none = read_line r o left first last (no_internet o left first last is none)

pub line_without_circuits : {E : Type 0} (r : Result CountedReader E) (o : CaptureOptions) (left : Option (List Record)) (first : FirstReading) (c : CircuitReading) → IsLastReading o left first → IsCircuitReading first.options left c → o.source ≡ None
    → has_circuits c.circuits.circuits ≡ false → IfOk r (IsLineCounted first) → IfOk r (IsCountedOf o left)
line_without_circuits r o left first c last has is none = read_line r o left first last (no_circuit o left first c last has is none)

pub circuits_without_line : {E : Type 0} (r : Result CountedReader E) (o : CaptureOptions) (left : Option (List Record)) (first : FirstReading) (c : CircuitReading) → IsLastReading o left first → IsCircuitReading first.options left c → o.source ≡ None
    → first.survey.has_internet ≡ true → has_packets first.survey.seen.beginning ≡ false → has_circuits c.circuits.circuits ≡ true → IfOk r (AreCircuitsCounted c) → IfOk r (IsCountedOf o left)
circuits_without_line r o left first c last has is internet line some = read_circuits r o left first c last has (circuits_alone o left first c last has is internet line some)

-- ---- the trace of a capture

same_text : (o : CaptureOptions) (left : Option (List Record)) (reader : Reader) → IsReaderOf o left reader → text_left left reader 0 ≡ option_and_then (capture_text o) left
same_text o None reader is = refl
same_text o (Some records) reader is = is records refl

pub opened_text : {T E : Type 0} (left : T → Option (List ℕ)) (r : Result T E) (o : CaptureOptions) (file named : Option (List ℕ)) (reader : Reader) → file ≡ named → IsReaderOf o (option_and_then (records_of true 0) named) reader
    → IfOk r (λ text. left text ≡ text_left (option_and_then (records_of true 0) file) reader 0) → IfOk r (λ text. left text ≡ captured o named)
opened_text left r o file named reader same is h =
    IfOk-weaker r (λ text. left text ≡ text_left (option_and_then (records_of true 0) file) reader 0) (λ text. left text ≡ captured o named)
    (λ text e. e ∙ ap (λ f. text_left (option_and_then (records_of true 0) f) reader 0) same ∙ same_text o (option_and_then (records_of true 0) named) reader is) h

-- the same of a file that was kept: of what it showed before
pub kept_text : {T E : Type 0} (left : T → Option (List ℕ)) (r : Result T E) (o : CaptureOptions) (file : Option (List ℕ)) (kept : List ℕ) → ((octets : List ℕ) → file ≡ Some octets → kept ≡ octets)
    → IfOk r (λ text. left text ≡ captured o (Some kept)) → IfOk r (λ text. (octets : List ℕ) → file ≡ Some octets → left text ≡ captured o (Some octets))
kept_text left r o file kept all =
    IfOk-weaker r (λ text. left text ≡ captured o (Some kept)) (λ text. (octets : List ℕ) → file ≡ Some octets → left text ≡ captured o (Some octets))
    (λ text same octets e. same ∙ ap (λ xs. captured o (Some xs)) (all octets e))
