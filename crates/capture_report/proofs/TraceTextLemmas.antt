-- The text of rows, as the observer reads it.
use Rattle.std.proofs.Common.{◌≡◌, ◌∙◌, sym, ap, subst, refl, ℕ, ◌+◌, ◌<◌, ◌≤◌, ◌⊎◌, inl, inr, Bool, true, false, max, List, [], ◌∷◌, ◌++◌, length, Option, None, Some, arith, drop, append_assoc, append-nil}
use Rattle.std.specs.Prelude.{codes, decimal, nat_le, not, if◌then◌else◌}
use Rattle.std.specs.List.{filter_map}
use Rattle.std.specs.Option.{option_or}
use Rattle.std.proofs.lemmas.Bool.{le-leb, leb-true}
use Rattle.std.proofs.lemmas.List.Elements.{filter-append}
use Rattle.line_model.specs.basics.Records as trace
use Rattle.line_model.specs.declared.interface.Interface.{Interface}
use Rattle.line_model.specs.observer.Report.{report}
use Rattle.line_model.specs.packets.Says.{items_of}
use Rattle.line_model.specs.text.Header.{interface_of}
use Rattle.line_model.specs.text.RowLine.{row_of}
use Rattle.line_model.specs.text.Text.{Line, begun_kind, begun_line, content_of, ended_lines, fault, first_fault, good_lines, has_header, head, head_in, head_of, is_comment, last_number, last_or, line_or_none, lines_of, row_number, rows, rows_in, size_kind, size_of}
use Rattle.line_model.proofs.LineLemmas.{size_kind-zero}
use Rattle.line_model.proofs.TextLemmas.{begun-lf, begun-more, ended-lf, ended-more, first_fault-append, size_of-append, size_of-ended}
use Rattle.trace_text.specs.Cuts.{Lacks}
use Rattle.trace_text.specs.Progress.{Progress}
use Rattle.trace_text.specs.Represents.{EndsText}
use Rattle.trace_text.specs.RowTexts.{octets_word, side_letter}
use Rattle.trace_text.proofs.BlockLemmas.{AreRows, Follows, WritesRow, follows, seam}
use Rattle.trace_text.proofs.EndLemmas.{end-header, end-header-rows}
use Rattle.trace_text.proofs.FeedLemmas.{early-none, no_fault}
use Rattle.lapb_link.specs.declared.frames.Place.{Place}
use Rattle.capture_report.specs.Contents.{Content, Gap, Packet, Row}
use Rattle.capture_report.specs.Laws.{CaptureLaw, HasRows, IsHeader, NumberLaw, TextLaw}
use Rattle.capture_report.specs.Rows.{rows_from}
use Rattle.capture_report.specs.Texts.{Page, after_row, channel_text, content_text, first_printer, least_number, number_if, number_of, numbered, numbered_text, place_text, rows_printed, sided}
use Rattle.capture_report.specs.TraceRows.{AreRows as AreCaptureRows, AreWithin, IsContent, IsRow, IsWithin, row_numbered, trace_row, trace_rows}
use Rattle.capture_report.specs.declared.print.Printer.{Printer}
use Rattle.capture_report.proofs.CaptureRowLemmas.{rows_law}
use Rattle.capture_report.proofs.PlaceLemmas.{place_line, place_part}
use Rattle.capture_report.proofs.RowWordLemmas.{content_line, row_line}
use mathlib.Core.Bool.{and-false}

-- ---- the lines of a row

-- the first line of a text ends at its LF
pub line_first : (l rest : List ℕ) → Lacks 10 l → (ended_lines (l ++ 10 ∷ rest) ≡ l ∷ ended_lines rest) × (begun_line (l ++ 10 ∷ rest) ≡ begun_line rest)
line_first l rest h =
    let s = seam (l ++ 10 ∷ []) rest (begun-lf l) in
    let cut : (l ++ 10 ∷ []) ++ rest ≡ l ++ 10 ∷ rest = append_assoc l (10 ∷ []) rest in
    let one : ended_lines (l ++ 10 ∷ []) ≡ l ∷ [] = ended-lf l ∙ ap (λ ls. ls ++ begun_line l ∷ []) (ended-more [] l h) ∙ ap (λ (b : List ℕ). b ∷ []) (begun-more [] l h) in
    (ap ended_lines (sym cut) ∙ s.lines ∙ ap (λ ls. ls ++ ended_lines rest) one, ap begun_line (sym cut) ∙ s.begun)

place_first : (p : Place) (k : Option ℕ) (rest : List ℕ) → place_text p k ++ rest ≡ place_line p k ++ 10 ∷ rest
place_first p k rest = append_assoc (place_line p k) (10 ∷ []) rest

content_first : (n : ℕ) (c : Content) (rest : List ℕ) → content_text n c ++ rest ≡ content_line n c ++ 10 ∷ rest
content_first n (Packet s octets) rest =
    let word = octets_word octets in
    append_assoc (decimal n) (32 ∷ side_letter s ∷ 32 ∷ (word ++ 10 ∷ [])) rest ∙ ap (λ xs. decimal n ++ 32 ∷ side_letter s ∷ 32 ∷ xs) (append_assoc word (10 ∷ []) rest)
    ∙ sym (append_assoc (decimal n) (32 ∷ side_letter s ∷ 32 ∷ word) (10 ∷ rest))
content_first n (Gap c) rest =
    append_assoc (decimal n ++ codes " ? " ++ channel_text c) (10 ∷ []) rest ∙ ap (λ xs. xs ++ 10 ∷ rest) (append_assoc (decimal n) (codes " ? ") (channel_text c))

both_first : (p : Place) (k : Option ℕ) (n : ℕ) (c : Content) (rest : List ℕ) → (place_text p k ++ content_text n c) ++ rest ≡ place_line p k ++ 10 ∷ (content_line n c ++ 10 ∷ rest)
both_first p k n c rest =
    append_assoc (place_text p k) (content_text n c) rest ∙ ap (λ xs. place_text p k ++ xs) (content_first n c rest) ∙ place_first p k (content_line n c ++ 10 ∷ rest)

-- a row has a number above the last one
numbers_rise : (p : Printer) (r : Row) (n : ℕ) → number_if p r ≡ Some n → (p.last < n) × (n < 1000000000)
numbers_rise p r n h = at _ _ refl h
  where
    at : (gap fits : Bool) → nat_le (number_of p r) 999999999 ≡ fits → (if gap then None else if fits then Some (number_of p r) else None) ≡ Some n → (p.last < n) × (n < 1000000000)
    at true fits e k = cc
    at false false e k = cc
    at false true e k =
        let same : max (p.last + 1) (least_number p.by_frames r.place.frame r.content) ≡ n = cc in
        let most = leb-true (number_of p r) 999999999 e in
        (omega (arith, same), omega (arith, same, most))

abbrev number_by : (gap : Bool) → ℕ → Option ℕ
number_by gap n = if gap then None else if nat_le n 999999999 then Some n else None

abbrev number_within : (few : Bool) → ℕ → Option ℕ
number_within few n = if few then Some n else None

abbrev number_after : (last frame : ℕ) → (by_frames : Bool) → ℕ
number_after last frame by_frames = max (last + 1) (if by_frames then frame else 0)

pub number_law : NumberLaw
number_law p place circuit s octets by rises few =
    let most : max (p.last + 1) place.frame ≡ place.frame = omega (arith, rises) in
    ap (λ gap. number_by gap (number_after p.last place.frame p.by_frames)) (and-false p.is_in_gap)
    ∙ ap (number_by false) (ap (number_after p.last place.frame) by ∙ most)
    ∙ ap (λ b. number_within b place.frame) (le-leb place.frame 999999999 few)

-- ---- the lines of rows

-- a text of whole lines that write these rows after one of this number
record AreLines (i : Interface) (last : ℕ) (text : List ℕ) (rs : List trace.Row) : Type 0 where
  whole : begun_line text ≡ []
  lines : AreRows i last (ended_lines text) rs

one_more : (i : Interface) (last : ℕ) (r : Row) (n : ℕ) (rest : List ℕ) (rs : List trace.Row) → IsRow r → IsWithin i r.content → last < n → n < 1000000000
    → AreLines i n rest rs → AreLines i last ((place_text r.place r.circuit ++ content_text n r.content) ++ rest) (trace_row n r.content ∷ rs)
one_more i last r n rest rs h within more small later =
    let comment = place_part r.place r.circuit h.place h.circuit in
    let row = row_line i n r.content (omega (arith, more)) small (h.content, within) in
    let content = line_first (content_line n r.content) rest row.one_line in
    let place = line_first (place_line r.place r.circuit) (content_line n r.content ++ 10 ∷ rest) comment.no_lf in
    let is = both_first r.place r.circuit n r.content rest in
    let lines : ended_lines ((place_text r.place r.circuit ++ content_text n r.content) ++ rest) ≡ place_line r.place r.circuit ∷ content_line n r.content ∷ ended_lines rest =
    ap ended_lines is ∙ place.0 ∙ ap (λ (ls : List Line). place_line r.place r.circuit ∷ ls) content.0 in
    record {
      whole = ap begun_line is ∙ place.1 ∙ content.1 ∙ later.whole;
      lines = subst (λ ls. AreRows i last ls (trace_row n r.content ∷ rs)) (sym lines) (
        comment.few,
        inl (
          refl,
          (
            row.short,
            inr (
              trace_row n r.content,
              rs,
              row.writes,
              subst (λ m. last < m) (sym row.number) more,
              refl,
              subst (λ m. AreRows i m (ended_lines rest) rs) (sym row.number) later.lines,
            ),
          ),
        ),
      );
    }

-- a row with the sides of a printer is one, where its interface has gaps
sided_row : (swapped : Bool) (r : Row) → IsRow r → IsRow (record { place = r.place; circuit = r.circuit; content = sided swapped r.content })
sided_row swapped r h = record { place = h.place; circuit = h.circuit; content = at swapped r.content h.content }
  where
    at : (swapped : Bool) (c : Content) → IsContent c → IsContent (sided swapped c)
    at swapped (Packet s octets) h = h
    at swapped (Gap c) h = h

sided_within : (i : Interface) (swapped : Bool) (c : Content) → IsWithin i c → IsWithin i (sided swapped c)
sided_within i swapped (Packet s octets) h = h
sided_within i swapped (Gap c) h = h

are_lines : (i : Interface) (p : Printer) (rs : List Row) → AreCaptureRows rs → AreWithin i rs → AreLines i p.last (rows_printed p rs) (trace_rows p rs)
are_lines i p [] h k = record { whole = refl; lines = refl }
are_lines i p (r ∷ rs) h k = at (number_if p r) refl (are_lines i (after_row p r) rs h.1 k.1)
  where
    at : (o : Option ℕ) → number_if p r ≡ o → AreLines i (numbered o r p).last (rows_printed (numbered o r p) rs) (trace_rows (numbered o r p) rs)
        → AreLines i p.last (numbered_text p.is_swapped o r ++ rows_printed (numbered o r p) rs) (row_numbered p.is_swapped o r ++ trace_rows (numbered o r p) rs)
    at None e later = later
    at (Some n) e later =
        let rises = numbers_rise p r n e in
        one_more i p.last (record { place = r.place; circuit = r.circuit; content = sided p.is_swapped r.content }) n (rows_printed (numbered (Some n) r p) rs) (trace_rows (numbered (Some n) r p) rs) (sided_row p.is_swapped r h.0)
        (sided_within i p.is_swapped r.content k.0) rises.0 rises.1 later

-- ---- the whole text

-- the lines of a header
record AreOfHeader (i : Interface) (es : List Line) : Type 0 where
  head : head_of es ≡ Some i
  last : last_number es ≡ 0
  none : rows_in es ≡ []

header_lines : (i : Interface) (text : List ℕ) → IsHeader i text → AreOfHeader i (ended_lines text)
unfolding head_of last_number rows_in
header_lines i text h = record {
  head = ap head_in h.content ∙ h.interface;
  last = ap (λ ls. last_or 0 (filter_map row_number (drop 1 ls))) h.content;
  none = ap (λ ls. filter_map row_of (drop 1 ls)) h.content;
}

-- lines without a fault after a header, and nothing begun after them
text_read : (i : Interface) (header text : List ℕ) (rs : List trace.Row) → IsHeader i header → AreLines i 0 text rs → length (header ++ text) ≤ 1073741824 → HasRows (header ++ text) i rs
text_read i header text rs h lines room =
    let es = ended_lines header in
    let ls = ended_lines text in
    let own = header_lines i header h in
    let s = seam header text h.whole in
    let begun : begun_line (header ++ text) ≡ [] = s.begun ∙ lines.whole in
    let small : size_of (ended_lines (header ++ text)) ≤ 1073741824 = omega (arith, room, size_of-ended (header ++ text)) in
    let fits : size_of es + size_of ls ≤ 1073741824 = omega (arith, small, ap size_of s.lines, size_of-append es ls) in
    let rest : Follows es ls rs = follows i es ls rs own.head fits (subst (λ n. AreRows i n ls rs) (sym own.last) lines.lines) in
    let none : first_fault [] (ended_lines (header ++ text)) ≡ None =
    ap (first_fault []) s.lines ∙ first_fault-append [] es ls ∙ ap (λ o. option_or o (first_fault es ls)) (no_fault header h.sound) ∙ rest.sound in
    let all : lines_of (header ++ text) ≡ es ++ ls = ap (λ b. ended_lines (header ++ text) ++ line_or_none b) begun ∙ append-nil (ended_lines (header ++ text)) ∙ s.lines in
    let reader : Progress = record { ended = 0; start = 0; interface = Some i; last = 0; begun = []; refused = None } in
    let ends : EndsText reader (length (lines_of (header ++ text))) (header ++ text) = record {
      lines = refl;
      interface = sym (ap head_of all ∙ rest.head ∙ own.head);
      header = sym (ap has_header all ∙ rest.header);
      sound = ap (begun_kind (ended_lines (header ++ text))) begun;
      early = early-none (header ++ text) none (ap (λ (b : List ℕ). size_kind (size_of (ended_lines (header ++ text))) 0 (length b)) begun ∙ size_kind-zero (size_of (ended_lines (header ++ text))) small);
    } in
    let sound = end-header reader (length (lines_of (header ++ text))) (header ++ text) i ends refl in
    let same : rows (header ++ text) ≡ rs =
    end-header-rows reader (length (lines_of (header ++ text))) (header ++ text) i rs ends refl (ap rows_in all ∙ rest.rows_are ∙ ap (λ xs. xs ++ rs) own.none) in
    record {
      sound = sound.0;
      header = sound.1;
      same_rows = same;
      report = ap (λ o. elim o as (λ _. List ℕ) [ None ↦ [] | Some i ↦ report i (items_of i (rows (header ++ text))) ]) sound.1 ∙ ap (λ xs. report i (items_of i xs)) same;
    }

-- ---- a text without a fault

rows_written : (i : Interface) (last : ℕ) (ls : List Line) (rs : List trace.Row) → AreRows i last ls rs → filter_map row_of (content_of ls) ≡ rs
rows_written i last [] rs h = sym h
rows_written i last (l ∷ ls) rs h = at (rows_written i last ls rs) (λ n rest. rows_written i n ls rest) h.1
  where
    at : (AreRows i last ls rs → filter_map row_of (content_of ls) ≡ rs) → ((n : ℕ) (rest : List trace.Row) → AreRows i n ls rest → filter_map row_of (content_of ls) ≡ rest)
        → ((is_comment l ≡ true) × AreRows i last ls rs) ⊎ ((row : trace.Row) × (rest : List trace.Row) × WritesRow i l row × (last < row.number) × (rs ≡ row ∷ rest) × AreRows i row.number ls rest)
        → filter_map row_of (content_of (l ∷ ls)) ≡ rs
    at same later (inl c) = rw (c.0) (same c.1)
    at same later (inr r) = let w = r.2 in rw (w.plain, w.writes) (ap (λ rest. r.0 ∷ rest) (later r.0.number r.1 r.5) ∙ sym r.4)

-- an interface with all channels and with gaps: the lines of rows say the same whatever the interface
all_gaps : Interface
all_gaps = record { modulus = 8; window = 2; size = 128; pvc = 0; incoming = 0; two_way = 4095; svc = 4095; join = false; gaps = true; lawful = refl }

has_all_gaps : (c : Content) → IsContent c → IsWithin all_gaps c
unfolding all_gaps
has_all_gaps (Packet s octets) h = tt
has_all_gaps (Gap None) h = (refl, tt)
has_all_gaps (Gap (Some k)) h = (refl, h.1)

have_all_gaps : (rs : List Row) → AreCaptureRows rs → AreWithin all_gaps rs
have_all_gaps [] h = tt
have_all_gaps (r ∷ rs) h = (has_all_gaps r.content h.0.content, have_all_gaps rs h.1)

sound_read : (i wide : Interface) (header text : List ℕ) (line : Line) (rs : List trace.Row) → content_of (ended_lines header) ≡ line ∷ [] → interface_of line ≡ Some i → begun_line header ≡ []
    → AreLines wide 0 text rs → fault (header ++ text) ≡ None → HasRows (header ++ text) i rs
unfolding head rows head_of rows_in
sound_read i wide header text line rs one interface whole lines sound =
    let es = ended_lines header in
    let ls = ended_lines text in
    let s = seam header text whole in
    let begun : begun_line (header ++ text) ≡ [] = s.begun ∙ lines.whole in
    let all : lines_of (header ++ text) ≡ es ++ ls = ap (λ b. ended_lines (header ++ text) ++ line_or_none b) begun ∙ append-nil (ended_lines (header ++ text)) ∙ s.lines in
    let content : content_of (es ++ ls) ≡ line ∷ content_of ls = filter-append (λ l. not (is_comment l)) es ls ∙ ap (λ (xs : List Line). xs ++ content_of ls) one in
    let first : head (header ++ text) ≡ Some i = ap (λ o. head_of (good_lines o (lines_of (header ++ text)))) sound ∙ ap head_of all ∙ ap head_in content ∙ interface in
    let same : rows (header ++ text) ≡ rs =
    ap (λ o. rows_in (good_lines o (lines_of (header ++ text)))) sound ∙ ap rows_in all ∙ ap (λ (ls : List Line). filter_map row_of (drop 1 ls)) content ∙ rows_written wide 0 ls rs lines.lines in
    record {
      sound = sound;
      header = first;
      same_rows = same;
      report = ap (λ o. elim o as (λ _. List ℕ) [ None ↦ [] | Some i ↦ report i (items_of i (rows (header ++ text))) ]) first ∙ ap (λ xs. report i (items_of i xs)) same;
    }

pub sound_law : (i : Interface) (header : List ℕ) (line : Line) (by_frames swapped : Bool) (rs : List Row) → content_of (ended_lines header) ≡ line ∷ [] → interface_of line ≡ Some i → begun_line header ≡ [] → AreCaptureRows rs
    → fault (header ++ rows_printed (first_printer by_frames swapped) rs) ≡ None → HasRows (header ++ rows_printed (first_printer by_frames swapped) rs) i (trace_rows (first_printer by_frames swapped) rs)
sound_law i header line by_frames swapped rs one interface whole are sound =
    sound_read i all_gaps header (rows_printed (first_printer by_frames swapped) rs) line (trace_rows (first_printer by_frames swapped) rs) one interface whole (are_lines all_gaps (first_printer by_frames swapped) rs are (have_all_gaps rs are)) sound

pub text_law : TextLaw
text_law i header by_frames swapped rs h are within room = text_read i header (rows_printed (first_printer by_frames swapped) rs) (trace_rows (first_printer by_frames swapped) rs) h (are_lines i (first_printer by_frames swapped) rs are within) room

pub capture_law : CaptureLaw
capture_law i header by_frames swapped r records text h page fresh recorded within given room =
    let rs = rows_from r.order r.line records in
    let is : header ++ rows_printed (first_printer by_frames swapped) rs ≡ text = ap (λ (p : Page). p.text ++ rows_printed p.printer rs) (sym page) ∙ some_text given in
    subst (λ xs. HasRows xs i (trace_rows (first_printer by_frames swapped) rs)) is (text_law i header by_frames swapped rs h (rows_law r.order r.line records fresh recorded) within (subst (λ (xs : List ℕ). length xs ≤ 1073741824) (sym is) room))
  where
    some_text : {xs ys : List ℕ} → Some xs ≡ Some ys → xs ≡ ys
    some_text e = cc
