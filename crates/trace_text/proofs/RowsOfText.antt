-- The rows of lines without a fault: their numbers rise, and they have no more octets than the lines have bytes.
use Rattle.std.proofs.Common.{◌≡◌, ◌∙◌, sym, ap, subst, refl, ◌⊎◌, inl, inr, ℕ, ◌+◌, ◌<◌, ◌≤◌, ◌^◌, Bool, true, false, cond, List, [], ◌∷◌, ◌++◌, map, length, Option, Some, None, Result, Ok, Err, append_assoc, append-nil, length-append, arith}
use Rattle.std.specs.Prelude.{All, sum_by, codes, nat_le, nat_lt, is_none, is_some, if◌then◌else◌}
use Rattle.std.specs.List.{join_with_byte}
use Rattle.std.specs.List.Sorted.{IsStrictlyIncreasing}
use Rattle.std.specs.Option.{option_and_then}
use Rattle.std.specs.Result.{result_ok}
use Rattle.std.specs.Str.{bytes_eq}
use Rattle.std.specs.Str.Parse.{digits_value, AllDigits}
use Rattle.std.proofs.lemmas.Bool.{ltb-true}
use Rattle.std.proofs.lemmas.List.Splits.{join_with_byte-slice_split}
use Rattle.std.proofs.lemmas.Str.Parse.{digits_value_short, numerals_by_value, tells_digits}
use Rattle.hex.specs.Hex.{decode_of}
use Rattle.hex.specs.declared.error.FromHexError.{FromHexError}
use Rattle.hex.proofs.HexLemmas.{decode_of-ok}
use Rattle.line_model.specs.declared.interface.Interface.{Interface}
use Rattle.line_model.specs.declared.fault.Kind.{Kind}
use Rattle.line_model.specs.declared.fault.Kind.TheVariants.{HeaderForm, HeaderRange, LineForm, Number}
use Rattle.line_model.specs.text.Header.{HeaderNumbers, header_numbers, interface_of, is_number, number_of, words_of}
use Rattle.line_model.specs.basics.Records.{Row}
use Rattle.line_model.specs.text.RowLine.{RowWords, is_row_words, kind_behind, octets_of, rising_number, row_kind, row_numbered, row_of, row_words, row_words_in, words_kind}
use Rattle.line_model.specs.text.Text.{Line, is_comment, has_header, head_of, last_number, rows_in, size_of, size_kind, contents_kind, header_kind, form_kind, line_kind, first_fault, begun_kind, end_kind, ended_lines, begun_line, line_or_none, lines_of, early, early_rows, fault, rows}
use Rattle.line_model.proofs.LineLemmas.{has_header-comment, has_header-line, head-comment, head-first, head-later, last_number-comment, rows_in-comment, last_number-first, rows_in-first, last_number-later, rows_in-later}
use Rattle.line_model.proofs.TextLemmas.{size_of-append, size_kind-none}
use Rattle.line_model.proofs.TextRows.{row_there}
use Rattle.line_model.proofs.RowsSoFar.{RowsTo, rows_none, rows_push, rows_rise, rows_below}
use Rattle.trace_text.proofs.FeedLemmas.{no_fault, rows-sound, map_none}
use Rattle.trace_text.proofs.NumberLemmas.{number_parts}
use Rattle.line_model.proofs.FinalFaults.{both_none}
use Rattle.trace_text.proofs.EndLemmas.{rows-all}
use Rattle.std.proofs.lemmas.Option.{cond_some}

-- ---- one row's line

-- a line writes a row, after one with the number `last`
pub record WritesRow (last : ℕ) (line : Line) : Type 0 where
  pub row : Row
  pub is : row_of line ≡ Some row
  pub above : last < row.number
  pub few : row.number ≤ 999999999
  pub octets : length row.octets ≤ length line

number_few : (word : List ℕ) (n : ℕ) → number_of word ≡ Some n → n ≤ 999999999
number_few word n h =
    let s = cond_some (is_number word) (digits_value 10 word) n h in
    let parts = number_parts word s.0 in
    omega (arith, s.1, digits_value_short (numerals_by_value (AllDigits 10) tells_digits) word 9 parts.1 parts.0)

rising_parts : (last n : ℕ) (o : Option ℕ) → option_and_then (λ m. if nat_lt last m then Some m else None) o ≡ Some n → (o ≡ Some n) × (last < n)
rising_parts last n None h = absurd (cc)
rising_parts last n (Some m) h =
    let s = cond_some (nat_lt last m) m n h in
    (ap Some s.1, subst (λ k. last < k) s.1 (ltb-true last m s.0))

hex_length : (word xs : List ℕ) (r : Result (List ℕ) FromHexError) → decode_of word ≡ r → option_and_then (λ octets. if nat_le (length octets) 4200 then Some octets else None) (result_ok r) ≡ Some xs
    → length xs ≤ length word
hex_length word xs (Err e) k h = absurd (cc)
hex_length word xs (Ok ys) k h =
    let s = cond_some (nat_le (length ys) 4200) ys xs h in
    omega (arith, (decode_of-ok word ys k).2, ap (λ (l : List ℕ). length l) s.1)

octets_length : (word xs : List ℕ) → octets_of word ≡ Some xs → length xs ≤ length word
unfolding octets_of
octets_length word xs h = at (bytes_eq word (codes "-")) h
  where
    at : (b : Bool) → cond b (Some []) (option_and_then (λ octets. if nat_le (length octets) 4200 then Some octets else None) (result_ok (decode_of word))) ≡ Some xs → length xs ≤ length word
    at true h = let none : [] ≡ xs = cc in omega (arith, ap (λ (l : List ℕ). length l) none)
    at false h = hex_length word xs (decode_of word) refl h

hex_within : (words : List (List ℕ)) (w : RowWords) → row_words_in words ≡ Some w → length w.hex ≤ length (join_with_byte 32 words)
hex_within (n ∷ s ∷ x ∷ []) w h =
    let same = cond_some (is_row_words n s x) (record { number = n; side = s; hex = x }) w h in
    omega (arith, ap (λ v. length v.hex) same.1, length-append n (32 ∷ (s ++ 32 ∷ x)), length-append s (32 ∷ x))
hex_within _ w h = absurd (cc)

words_within : (line : Line) (w : RowWords) → row_words line ≡ Some w → length w.hex ≤ length line
unfolding row_words
words_within line w h = subst (λ l. length w.hex ≤ length l) (join_with_byte-slice_split 32 line) (hex_within (words_of line) w h)

octets_few : (line : Line) (w : RowWords) (row : Row) → row_words line ≡ Some w → (row.octets ≡ []) ⊎ (octets_of w.hex ≡ Some row.octets) → length row.octets ≤ length line
octets_few line w row e (inl none) = omega (arith, ap (λ (l : List ℕ). length l) none)
octets_few line w row e (inr some) = omega (arith, octets_length w.hex row.octets some, words_within line w e)

pub writes_row : (i : Interface) (last : ℕ) (line : Line) → row_kind i last line ≡ None → WritesRow last line
unfolding row_kind row_of
writes_row i last line h = at (row_words line) refl h
  where
    is_written : (w : RowWords) (n : ℕ) (row : Row) → row_words line ≡ Some w → number_of w.number ≡ Some n → row_numbered w n ≡ Some row → option_and_then (λ w. option_and_then (row_numbered w) (number_of w.number)) (row_words line) ≡ Some row
    is_written w n row e number is =
        ap (λ (ws : Option RowWords). option_and_then (λ w. option_and_then (row_numbered w) (number_of w.number)) ws) e ∙ ap (λ (m : Option ℕ). option_and_then (row_numbered w) m) number ∙ is

    numbered : (w : RowWords) (o : Option ℕ) → row_words line ≡ Some w → rising_number last w.number ≡ o → (if is_none o then Some Number else kind_behind i w) ≡ None → WritesRow last line
    numbered w None e r k = cc
    numbered w (Some n) e r k =
        let number = rising_parts last n (number_of w.number) r in
        let there = row_there i w n k in
        let same = there.number in
        record {
          row = there.row;
          is = is_written w n there.row e number.0 there.is;
          above = omega (arith, number.1, same);
          few = omega (arith, number_few w.number n number.0, same);
          octets = octets_few line w there.row e there.octets;
        }

    at : (o : Option RowWords) → row_words line ≡ o → (elim o as (λ _. Option Kind) [ None ↦ Some LineForm | Some words ↦ words_kind i last words ]) ≡ None → WritesRow last line
    at None e h = absurd (cc)
    at (Some w) e h = numbered w (rising_number last w.number) e refl h

-- ---- lines without a fault

record Sound (ls : List Line) : Type 0 where
  pub rows : RowsTo (last_number ls) (size_of ls) (rows_in ls)
  pub last : last_number ls ≤ 999999999
  pub size : size_of ls ≤ 2 ^ 30 + 1
  pub head : is_some (head_of ls) ≡ has_header ls

sound_nothing : Sound []
unfolding last_number rows_in head_of has_header
sound_nothing = record { rows = rows_none 0 0; last = omega arith; size = omega arith; head = refl }

more_rows : (last most more : ℕ) (rs : List Row) → RowsTo last most rs → most ≤ more → RowsTo last more rs
more_rows last most more rs h le = let octets = h.octets in record { rising = h.rising; below = h.below; octets = omega (arith, octets, le) }

moved : (a b most : ℕ) (xs ys : List Row) → a ≡ b → xs ≡ ys → RowsTo b most ys → RowsTo a most xs
moved a b most xs ys e h r = subst (λ l. RowsTo a most l) (sym h) (subst (λ n. RowsTo n most ys) (sym e) r)

-- a header without a fault sets up an interface
header_there : (l : Line) → header_kind l ≡ None → is_some (interface_of l) ≡ true
unfolding header_kind
header_there l h = at (header_numbers l) (interface_of l) h
  where
    at : (o : Option HeaderNumbers) (p : Option Interface) → (if is_none o then Some HeaderForm else if is_none p then Some HeaderRange else None) ≡ None → is_some p ≡ true
    at None p e = cc
    at (Some n) None e = cc
    at (Some n) (Some i) e = refl

sound_line : (es : List Line) (l : Line) (lf : ℕ) → Sound es → line_kind es lf l ≡ None → Sound (es ++ l ∷ [])
unfolding contents_kind
sound_line es l lf s h = at (is_comment l) refl (head_of es) refl parts.1
  where
    parts : (size_kind (size_of es) lf (length l) ≡ None) × (form_kind es l ≡ None)
    parts = both_none (size_kind (size_of es) lf (length l)) (form_kind es l) h

    grown : size_of (es ++ l ∷ []) ≡ size_of es + (length l + 1)
    grown = omega (arith, size_of-append es (l ∷ []))

    fits : size_of (es ++ l ∷ []) ≤ 2 ^ 30 + 1
    fits = omega (arith, grown, (size_kind-none (size_of es) lf (length l) parts.0).1)

    same : rows_in (es ++ l ∷ []) ≡ rows_in es → last_number (es ++ l ∷ []) ≡ last_number es → is_some (head_of (es ++ l ∷ [])) ≡ has_header (es ++ l ∷ []) → Sound (es ++ l ∷ [])
    same of_lines number head = record {
      rows = more_rows (last_number (es ++ l ∷ [])) (size_of es) (size_of (es ++ l ∷ [])) (rows_in (es ++ l ∷ []))
          (moved (last_number (es ++ l ∷ [])) (last_number es) (size_of es) (rows_in (es ++ l ∷ [])) (rows_in es) number of_lines s.rows) (omega (arith, grown));
      last = omega (arith, number, s.last);
      size = fits;
      head = head;
    }

    after_header : (b : Bool) → is_some (head_of es) ≡ b → has_header es ≡ b
    after_header b e = sym s.head ∙ e

    at : (c : Bool) → is_comment l ≡ c → (head : Option Interface) → head_of es ≡ head → (if c then None else elim head as (λ _. Option Kind) [ None ↦ header_kind l | Some i ↦ row_kind i (last_number es) l ]) ≡ None → Sound (es ++ l ∷ [])
    at true c head e h = same (rows_in-comment es l c) (last_number-comment es l c) (ap (λ (o : Option Interface). is_some o) (head-comment es l c) ∙ s.head ∙ sym (has_header-comment es l c))
    at false c None e h =
        let a = after_header false (ap (λ (o : Option Interface). is_some o) e) in
        same (rows_in-first es l c a) (last_number-first es l c a) (ap (λ (o : Option Interface). is_some o) (head-first es l c a) ∙ header_there l h ∙ sym (has_header-line es l c))
    at false c (Some i) e h =
        let a = after_header true (ap (λ (o : Option Interface). is_some o) e) in
        let w = writes_row i (last_number es) l h in
        let number = last_number-later es l w.row c a w.is in
        let few = w.octets in
        record {
          rows = more_rows (last_number (es ++ l ∷ [])) (size_of es + length w.row.octets) (size_of (es ++ l ∷ [])) (rows_in (es ++ l ∷ []))
              (moved (last_number (es ++ l ∷ [])) w.row.number (size_of es + length w.row.octets) (rows_in (es ++ l ∷ [])) (rows_in es ++ w.row ∷ []) number (rows_in-later es l w.row c a w.is)
              (rows_push (last_number es) (size_of es) (rows_in es) w.row s.rows w.above))
              (omega (arith, grown, few));
          last = omega (arith, number, w.few);
          size = fits;
          head = ap (λ (o : Option Interface). is_some o) (head-later es l c a ∙ e) ∙ sym (has_header-line es l c);
        }

sound_ended : (before ls : List Line) → Sound before → first_fault before ls ≡ None → Sound (before ++ ls)
sound_ended before [] s h = subst Sound (sym (append-nil before)) s
sound_ended before (l ∷ ls) s h = at (line_kind before 1 l) refl h (sound_ended (before ++ l ∷ []) ls)
  where
    at : (o : Option Kind) → line_kind before 1 l ≡ o → (elim o as (λ _. Option (ℕ × Kind)) [ Some kind ↦ Some (length before + 1, kind) | None ↦ first_fault (before ++ l ∷ []) ls ]) ≡ None
        → (Sound (before ++ l ∷ []) → first_fault (before ++ l ∷ []) ls ≡ None → Sound ((before ++ l ∷ []) ++ ls)) → Sound (before ++ l ∷ ls)
    at (Some k) e h later = absurd (cc)
    at None e h later = subst Sound (append_assoc before (l ∷ []) ls) (later (sound_line before l 1 s e) h)

sound_begun : (es : List Line) (b : Line) → Sound es → begun_kind es b ≡ None → Sound (es ++ line_or_none b)
sound_begun es [] s h = subst Sound (sym (append-nil es)) s
sound_begun es (b ∷ bs) s h = sound_line es (b ∷ bs) 0 s h

sound_text : (text : List ℕ) → fault text ≡ None → Sound (lines_of text)
unfolding fault
sound_text text h =
    let p = both_none (first_fault [] (ended_lines text)) (end_kind (ended_lines text) (begun_line text)) h in
    sound_begun (ended_lines text) (begun_line text) (sound_ended [] (ended_lines text) sound_nothing p.0)
    (map_none (λ kind. (length (ended_lines text) + 1, kind)) (begun_kind (ended_lines text) (begun_line text)) (both_none _ _ p.1).0)

-- ---- a text without a fault

text_rows : (text : List ℕ) → fault text ≡ None → RowsTo (last_number (lines_of text)) (size_of (lines_of text)) (rows text)
text_rows text h = subst (RowsTo (last_number (lines_of text)) (size_of (lines_of text))) (sym (rows-all text h)) (sound_text text h).rows

pub text_rises : (text : List ℕ) → fault text ≡ None → IsStrictlyIncreasing (0 ∷ map (λ r. r.number) (rows text))
text_rises text h = rows_rise (last_number (lines_of text)) (size_of (lines_of text)) (rows text) (text_rows text h)

pub text_numbers : (text : List ℕ) → fault text ≡ None → All (λ r. r.number ≤ 999999999) (rows text)
text_numbers text h = rows_below (last_number (lines_of text)) (size_of (lines_of text)) 999999999 (rows text) (text_rows text h) (sound_text text h).last

pub text_octets : (text : List ℕ) → fault text ≡ None → sum_by (λ r. length r.octets) (rows text) ≤ 2 ^ 31
text_octets text h =
    let all = (text_rows text h).octets in
    omega (arith, all, (sound_text text h).size)

-- ---- the lines of a text that an LF has ended

sound_early : (text : List ℕ) → early text ≡ None → Sound (ended_lines text)
sound_early text h = sound_ended [] (ended_lines text) sound_nothing (no_fault text h)

rows_so_far : (text : List ℕ) → early text ≡ None → RowsTo (last_number (ended_lines text)) (size_of (ended_lines text)) (early_rows text)
rows_so_far text h = subst (RowsTo (last_number (ended_lines text)) (size_of (ended_lines text))) (sym (rows-sound text h)) (sound_early text h).rows

pub early_rises : (text : List ℕ) → early text ≡ None → IsStrictlyIncreasing (0 ∷ map (λ r. r.number) (early_rows text))
early_rises text h = rows_rise (last_number (ended_lines text)) (size_of (ended_lines text)) (early_rows text) (rows_so_far text h)

pub early_numbers : (text : List ℕ) → early text ≡ None → All (λ r. r.number ≤ 999999999) (early_rows text)
early_numbers text h = rows_below (last_number (ended_lines text)) (size_of (ended_lines text)) 999999999 (early_rows text) (rows_so_far text h) (sound_early text h).last

pub early_octets : (text : List ℕ) → early text ≡ None → sum_by (λ r. length r.octets) (early_rows text) ≤ 2 ^ 31
early_octets text h =
    let all = (rows_so_far text h).octets in
    omega (arith, all, (sound_early text h).size)
