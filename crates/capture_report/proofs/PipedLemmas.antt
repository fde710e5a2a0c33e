-- The reading of a capture that is read once.
use Rattle.std.proofs.Common.{◌≡◌, ◌∙◌, sym, ap, refl, subst, ℕ, Bool, true, false, List, [], ◌∷◌, ◌++◌, Option, None, Some, Result, Ok, Err, append_assoc}
use Rattle.std.specs.Prelude.{IfOk, OnOk, is_some, option_map, if◌then◌else◌}
use Rattle.std.specs.Io.KnownBytes.{ReadConsumes}
use Rattle.std.specs.Option.{option_and_then, option_to_list}
use Rattle.line_model.specs.declared.interface.Interface.{Interface}
use Rattle.line_model.specs.text.Header.{interface_with}
use Rattle.capture_files.specs.CaptureFiles.{records_of}
use Rattle.capture_model.specs.Frames.{Frame}
use Rattle.capture_rows.specs.Lines.{FrameRead}
use Rattle.capture_rows.specs.declared.line.Line.{Line as AnyLine}
use Rattle.lapb_link.specs.declared.receiver.Shown.{Shown}
use Rattle.capture_report.specs.CaptureTexts.{head_lines, line_by}
use Rattle.capture_report.specs.HeaderTexts.{head_text}
use Rattle.capture_report.specs.Headers.{has_packets, numbers_with}
use Rattle.capture_report.specs.Piped.{GoesOnFrom, IsAtFrame, IsLineBegun, IsPassedOver, IsPipedReader, IsPipedText, IsStarted, IsStarting, PipedLine, Reading, after_next, carried_once, first_reading, from_frame, gaps_expected, line_once, begun_once, framed_once, options_by, piped_text, reading_of, sight_to_packet, source_by, text_from}
use Rattle.capture_report.specs.Records.{Follows, Record}
use Rattle.capture_report.specs.Recordings.{begins_as_capture}
use Rattle.capture_report.specs.Rows.{after_record, dropped_rows, record_given, record_rows, record_shown, rows_from, rows_given}
use Rattle.capture_report.specs.Sights.{Sight, dropped_sight, first_sight, given_sight, record_sight, sight_of}
use Rattle.capture_report.specs.Standard.{capture_bytes}
use Rattle.capture_report.specs.Texts.{Page, rows_printed, with_rows}
use Rattle.capture_report.specs.Traces.{text_left}
use Rattle.capture_report.specs.declared.header.Seen.{Seen}
use Rattle.capture_report.specs.declared.options.CaptureOptions.{CaptureOptions}
use Rattle.capture_report.specs.declared.options.GivenHeader.{GivenHeader}
use Rattle.capture_report.specs.declared.piped.LineStart.{LineStart}
use Rattle.capture_report.specs.declared.reader.Order.TheVariants.{Noticed}
use Rattle.capture_report.specs.declared.reader.Reader.{Reader}
use Rattle.capture_report.specs.declared.reader.Reader.TheVariants as read
use Rattle.capture_report.specs.declared.row_source.RowSource.TheVariants.{Line}
use Rattle.capture_report.specs.declared.survey.Survey.{Survey}
use Rattle.capture_report.proofs.TextLemmas.{printed_on, with_rows_append}

-- ---- the first frame

frame_skipped : (r : Record) (rs : List Record) → is_some r.frame ≡ false → from_frame (r ∷ rs) ≡ from_frame rs
frame_skipped r rs h = ap (λ b. if b then r ∷ rs else from_frame rs) h

frame_kept : (r : Record) (rs : List Record) → is_some r.frame ≡ true → from_frame (r ∷ rs) ≡ r ∷ rs
frame_kept r rs h = ap (λ b. if b then r ∷ rs else from_frame rs) h

pub passed_none : (left : Option (List Record)) → IsPassedOver left left
passed_none left = λ records e. (records, e, refl)

pub passed_more : (before middle after : Option (List Record)) (latest : Option Record) (next : Record) → IsPassedOver before middle → Follows middle after latest → latest ≡ Some next → is_some next.frame ≡ false → IsPassedOver before after
passed_more before middle after latest next s follows is none = λ records e.
    let a = s records e in
    let f = follows.shown a.0 a.1 in
    (f.0, f.1, a.2 ∙ ap from_frame (f.2 ∙ ap (λ o. option_to_list o ++ f.0) is) ∙ frame_skipped next f.0 none)

pub frame_found : (before middle after : Option (List Record)) (latest : Option Record) (next : Record) → IsPassedOver before middle → Follows middle after latest → latest ≡ Some next → is_some next.frame ≡ true → IsAtFrame before after latest true
frame_found before middle after latest next s follows is some = λ records e.
    let a = s records e in
    let f = follows.shown a.0 a.1 in
    (f.0, f.1, a.2 ∙ ap from_frame (f.2 ∙ ap (λ o. option_to_list o ++ f.0) is) ∙ frame_kept next f.0 some ∙ sym (ap (λ o. option_to_list o ++ f.0) is))

pub frame_missing : (before middle after : Option (List Record)) (latest : Option Record) → IsPassedOver before middle → Follows middle after latest → latest ≡ None → IsAtFrame before after latest false
frame_missing before middle after latest s follows is = λ records e. let a = s records e in a.2 ∙ ap from_frame (follows.end a.0 a.1 is)

-- ---- the rows up to the first packet

pub next_read : {T E : Type 0} (result : Result T E) (r : Record) (old new : LineStart) (dropped : Page) (seen : Survey) (shown : List Shown) (read : Option FrameRead) → new.line ≡ after_record r old.line → shown ≡ record_shown r old.line
    → read ≡ record_given r old.line → dropped ≡ with_rows old.page (dropped_rows r.dropped old.line) → sight_of seen ≡ dropped_sight r.dropped old.line (sight_of old.survey)
    → sight_of new.survey ≡ given_sight r.frame shown read (sight_of seen) → OnOk result (new.page ≡ with_rows dropped (rows_given Noticed r.frame shown read))
    → OnOk result (reading_of new ≡ after_next r (reading_of old))
next_read (Ok x) r old new dropped seen shown read line shown_is read_is page before sight given =
    let rows = rows_given Noticed r.frame (record_shown r old.line) (record_given r old.line) in
    let same : rows_given Noticed r.frame shown read ≡ rows = ap (λ xs. rows_given Noticed r.frame xs read) shown_is ∙ ap (rows_given Noticed r.frame (record_shown r old.line)) read_is in
    let pages : new.page ≡ with_rows old.page (record_rows Noticed r old.line) =
    given ∙ ap (with_rows dropped) same ∙ ap (λ p. with_rows p rows) page ∙ sym (with_rows_append old.page (dropped_rows r.dropped old.line) rows) in
    let sights : sight_of new.survey ≡ record_sight old.line r (sight_of old.survey) =
    sight
    ∙ ap (λ xs. given_sight r.frame xs read (sight_of seen)) shown_is
    ∙ ap (λ x. given_sight r.frame (record_shown r old.line) x (sight_of seen)) read_is
    ∙ ap (given_sight r.frame (record_shown r old.line) (record_given r old.line)) before in
    ap (λ l. let s : Reading = record { line = l; page = new.page; sight = sight_of new.survey } in s) line
    ∙ ap (λ p. let s : Reading = record { line = after_record r old.line; page = p; sight = sight_of new.survey } in s) pages
    ∙ ap (λ v. let s : Reading = record { line = after_record r old.line; page = with_rows old.page (record_rows Noticed r old.line); sight = v } in s) sights
next_read (Err e) r old new dropped seen shown read line shown_is read_is page before sight given = tt

read_goes_on : (r : Record) (rest : List Record) (s : Reading) → has_packets s.sight.seen.beginning ≡ false → GoesOnFrom (r ∷ rest) rest s (after_next r s)
read_goes_on r rest s empty = record {
  text = printed_on s.page (record_rows Noticed r s.line) (rows_from Noticed (after_record r s.line) rest);
  sight = ap (λ b. if b then s.sight else sight_to_packet (after_record r s.line) rest (record_sight s.line r s.sight)) empty;
}

goes_on_further : (records middle rest : List Record) (old s new : Reading) → GoesOnFrom records middle old s → GoesOnFrom middle rest s new → GoesOnFrom records rest old new
goes_on_further records middle rest old s new a b = record { text = a.text ∙ b.text; sight = a.sight ∙ b.sight }

pub starting_none : (left : Option (List Record)) (latest : Option Record) (s : Reading) → IsStarting left latest left latest s s
starting_none left latest s = λ records e. (records, e, record { text = refl; sight = refl })

pub started_end : (left : Option (List Record)) (latest : Option Record) (after : Option (List Record)) (next : Option Record) (old s : Reading) → IsStarting left latest after next old s → next ≡ None → IsStarted left latest after old s
started_end left latest after next old s h is = λ records e.
    let a = h records e in
    (a.0, a.1, subst (λ o. GoesOnFrom (option_to_list latest ++ records) (option_to_list o ++ a.0) old s) is a.2)

pub started_more : (left : Option (List Record)) (latest : Option Record) (after : Option (List Record)) (next : Option Record) (r : Record) (old s new : Reading) → IsStarting left latest after next old s → next ≡ Some r
    → has_packets s.sight.seen.beginning ≡ false → new ≡ after_next r s → IsStarted left latest after old new
started_more left latest after next r old s new h is empty made = λ records e.
    let a = h records e in (
      a.0,
      a.1,
      goes_on_further (option_to_list latest ++ records) (r ∷ a.0) a.0 old s new (subst (λ o. GoesOnFrom (option_to_list latest ++ records) (option_to_list o ++ a.0) old s) is a.2) (subst (λ x. GoesOnFrom (r ∷ a.0) a.0 s x) (sym made) (read_goes_on r a.0 s empty)),
    )

pub starting_more : (left : Option (List Record)) (latest : Option Record) (middle after : Option (List Record)) (next : Option Record) (old s : Reading) → IsStarted left latest middle old s → Follows middle after next → IsStarting left latest after next old s
starting_more left latest middle after next old s h follows = λ records e.
    let a = h records e in
    let f = follows.shown a.0 a.1 in
    (f.0, f.1, subst (λ rs. GoesOnFrom (option_to_list latest ++ records) rs old s) f.2 a.2)

-- ---- the header before them

pub headed : (g : GivenHeader) (v : Seen) (s : Reading) (i : Interface) (head : List ℕ) (reader : Reader) → interface_with (numbers_with g v) ≡ Some i → head ≡ head_text i v g
    → reader ≡ read.Line (record { line = s.line; order = Noticed; page = record { printer = s.page.printer; text = head ++ s.page.text } }) → (rest : List Record)
    → text_left (Some rest) reader 0 ≡ option_map (λ (xs : List ℕ). xs ++ text_from s rest) (head_lines g v)
headed g v s i head reader header text made rest =
    ap (λ r. text_left (Some rest) r 0) made
    ∙ ap Some (append_assoc head s.page.text (rows_printed s.page.printer (rows_from Noticed s.line rest)))
    ∙ ap (λ (xs : List ℕ). Some (xs ++ text_from s rest)) text
    ∙ sym (ap (λ o. option_map (λ (xs : List ℕ). xs ++ text_from s rest) (option_map (λ j. head_text j v g) o)) header)

at_packet : (l : AnyLine) (rest : List Record) (s : Sight) → has_packets s.seen.beginning ≡ true → sight_to_packet l rest s ≡ s
at_packet l [] s some = refl
at_packet l (r ∷ rs) s some = ap (λ b. if b then s else sight_to_packet (after_record r l) rs (record_sight l r s)) some

line_begun : (o : CaptureOptions) (left : Option (List Record)) (latest : Option Record) (after : Option (List Record)) (first s : Reading) (reader : Reader) → first ≡ first_reading o → IsStarted left latest after first s
    → has_packets s.sight.seen.beginning ≡ true → ((rest : List Record) → text_left (Some rest) reader 0 ≡ option_map (λ head. head ++ text_from s rest) (head_lines o.header (gaps_expected s.sight.seen))) → IsLineBegun o left latest after reader
line_begun o left latest after first s reader is started some made = λ records e.
    let begun : IsStarted left latest after (first_reading o) s = subst (λ x. IsStarted left latest after x s) is started in
    let a = begun records e in
    let all = option_to_list latest ++ records in (
      a.0,
      a.1,
      ap (λ xs. option_map (λ (head : List ℕ). head ++ xs) (head_lines o.header (gaps_expected (sight_to_packet (line_by o) all (first_sight o.choices.unknown)).seen))) a.2.text
          ∙ ap (λ (v : Sight). option_map (λ (head : List ℕ). head ++ text_from s a.0) (head_lines o.header (gaps_expected v.seen))) (a.2.sight ∙ at_packet s.line a.0 s.sight some)
          ∙ sym (made a.0),
    )

-- the same of what may be refused
pub line_begun_if : {E : Type 0} (result : Result Reader E) (o : CaptureOptions) (left : Option (List Record)) (latest : Option Record) (after : Option (List Record)) (first s : Reading) → first ≡ first_reading o → IsStarted left latest after first s
    → IfOk result (λ reader. has_packets s.sight.seen.beginning ≡ true)
    → IfOk result (λ reader. (rest : List Record) → text_left (Some rest) reader 0 ≡ option_map (λ head. head ++ text_from s rest) (head_lines o.header (gaps_expected s.sight.seen))) → IfOk result (IsLineBegun o left latest after)
line_begun_if (Ok reader) o left latest after first s is started some made = line_begun o left latest after first s reader is started some made
line_begun_if (Err e) o left latest after first s is started some made = tt

-- ---- the trace

piped_reader : (o : CaptureOptions) (left middle after : Option (List Record)) (latest : Option Record) (there : Bool) (r : Record) (f : Frame) (reader : Reader) → IsAtFrame left middle latest there → there ≡ true → latest ≡ Some r → r.frame ≡ Some f
    → source_by (options_by o f) f ≡ Line → IsLineBegun (options_by o f) middle latest after reader → IsPipedReader o left after reader
piped_reader o left middle after latest there r f reader found some is framed line begun = λ records e.
    let first : IsAtFrame left middle latest true = subst (IsAtFrame left middle latest) some found in
    let a = first records e in
    let b = begun a.0 a.1 in (
      b.0,
      b.1,
      ap (option_and_then (λ (l : PipedLine). line_once l.options l.records)) (
          ap (begun_once o) (a.2 ∙ ap (λ x. option_to_list x ++ a.0) is)
          ∙ ap (λ x. framed_once x o (r ∷ a.0)) framed
          ∙ ap (λ c. carried_once c (options_by o f) (r ∷ a.0)) line
          )
          ∙ ap (λ x. line_once (options_by o f) (option_to_list x ++ a.0)) (sym is)
          ∙ b.2,
    )

-- the same of what may be refused
pub piped_reader_if : {E : Type 0} (result : Result Reader E) (o : CaptureOptions) (left middle after : Option (List Record)) (latest : Option Record) (there : Bool) (r : Record) (f : Frame) → IsAtFrame left middle latest there → there ≡ true → latest ≡ Some r → r.frame ≡ Some f
    → source_by (options_by o f) f ≡ Line → IfOk result (IsLineBegun (options_by o f) middle latest after) → IfOk result (IsPipedReader o left after)
piped_reader_if (Ok reader) o left middle after latest there r f found some is framed line begun = piped_reader o left middle after latest there r f reader found some is framed line begun
piped_reader_if (Err e) o left middle after latest there r f found some is framed line begun = tt

pub piped_text_made : (o : CaptureOptions) (file text : Option (List ℕ)) (left after : Option (List Record)) (reader : Reader) → left ≡ option_and_then (records_of false 0) file → IsPipedReader o left after reader → text ≡ text_left after reader 0 → IsPipedText o file text
piped_text_made o file text left after reader is read made = λ records e.
    let p = read records (is ∙ e) in
    made ∙ ap (λ x. text_left x reader 0) p.1 ∙ sym p.2

-- ---- standard input

pub standard_opened : (o : CaptureOptions) (input begun text : Option (List ℕ)) (is : Bool) → is ≡ true → ((octets : List ℕ) → input ≡ Some octets → is ≡ begins_as_capture octets) → begun ≡ input → IsPipedText o begun text
    → (bytes : List ℕ) → capture_bytes o input ≡ Some bytes → text ≡ Some bytes
standard_opened o None begun text is capture kind same made bytes e = cc e
standard_opened o (Some octets) begun text is capture kind same made bytes e = at (records_of false 0 octets) refl
  where
    shown : option_and_then (piped_text o) (records_of false 0 octets) ≡ Some bytes
    shown = ap (λ b. if b then option_and_then (piped_text o) (records_of false 0 octets) else None) (sym capture ∙ kind octets refl) ∙ e

    at : (found : Option (List Record)) → records_of false 0 octets ≡ found → text ≡ Some bytes
    at None none = let no_text : None ≡ Some bytes = sym (ap (option_and_then (piped_text o)) none) ∙ shown in cc no_text
    at (Some records) some = made records (ap (option_and_then (records_of false 0)) same ∙ some) ∙ (sym (ap (option_and_then (piped_text o)) some) ∙ shown)

-- a reader that was prepared, without any byte lost, and then read
pub read_prepared : {E : Type 0} (old middle new : Option (List ℕ)) (r : Result ℕ E) (buf : List ℕ) → ((text : List ℕ) → old ≡ Some text → middle ≡ Some text) → ReadConsumes middle new r buf → ReadConsumes old new r buf
read_prepared None middle new (Ok n) buf same h = (tt, h.1)
read_prepared None middle new (Err e) buf same h = tt
read_prepared (Some text) middle new r buf same h = subst (λ o. ReadConsumes o new r buf) (same text refl) h
