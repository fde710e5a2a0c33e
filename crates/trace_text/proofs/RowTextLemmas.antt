-- The line that writes a row, as it is read.
use Rattle.std.proofs.Common.{◌≡◌, ◌∙◌, sym, subst, ap, refl, ℕ, ◌+◌, ◌*◌, ◌-◌, ◌^◌, ◌<◌, ◌≤◌, true, List, [], ◌∷◌, ◌++◌, length, length-append, take, take_all, get_or, Some, None, arith, inl, inr}
use Rattle.std.specs.Prelude.{decimal, is_some, nat_lt, if◌then◌else◌}
use Rattle.std.specs.Char.{is_ascii_digit}
use Rattle.std.specs.List.{list_all}
use Rattle.std.specs.Option.{option_and_then}
use Rattle.std.specs.Str.Parse.{AllDigits, digits_value}
use Rattle.std.proofs.Math.Nat.{pow-le-pow_right}
use Rattle.std.proofs.lemmas.Bool.{cases_lt, le-leb, lt-ltb, ne_eqb}
use Rattle.std.proofs.lemmas.Fmt.{decimal_is_IsNumeral, first_decimal, length-decimal-le}
use Rattle.std.proofs.lemmas.Int.Digits.{digits_value-lt}
use Rattle.std.proofs.lemmas.Str.Parse.{digit_at}
use Rattle.hex.specs.Hex.{IsBytes, encode_upper, upper_digits}
use Rattle.hex.proofs.HexLemmas.{decode_of-encode_upper, length-encode_with}
use Rattle.line_model.specs.basics.Records.{Row}
use Rattle.line_model.specs.declared.state.Side.{Side}
use Rattle.line_model.specs.declared.state.Side.TheVariants.{T, N}
use Rattle.line_model.specs.text.Header.{number_of}
use Rattle.line_model.specs.text.RowLine.{rising_number, side_of}
use Rattle.line_model.specs.text.Text.{size_kind}
use Rattle.trace_text.specs.Cuts.{Lacks}
use Rattle.trace_text.specs.Progress.{Progress}
use Rattle.trace_text.specs.Reads.{BeginsLine, BeginsRow}
use Rattle.trace_text.specs.RowTexts.{octets_word, row_text, side_letter}
use Rattle.trace_text.specs.Represents.{TakesRow}
use Rattle.trace_text.specs.Steps.{TakesLine, after_line}
use Rattle.trace_text.proofs.ChunkLemmas.{passed-none, takes-row}
use Rattle.trace_text.proofs.NumberLemmas.{number_is}
use Rattle.trace_text.proofs.RowFront.{decoded-line, number_lacks}
use Rattle.trace_text.proofs.StepLemmas.{takes-first}

digits_pass : (cs : List ℕ) → AllDigits 10 cs → list_all is_ascii_digit cs ≡ true
digits_pass [] h = refl
digits_pass (c ∷ cs) h =
    let range = digit_at (c ∷ cs) 0 h (omega arith) in
    let digit : is_ascii_digit c ≡ true = rw (le-leb 48 c (omega (arith, range)), le-leb c 57 (omega (arith, range))) refl in
    rw (digit, digits_pass cs h.1) refl

-- ---- the word of a number

decimal_passes : (n : ℕ) → n < 1000000000 → list_all is_ascii_digit (decimal n) ≡ true
decimal_passes n small = digits_pass (decimal n) (decimal_is_IsNumeral n (omega (arith, small))).0.1

number_of-decimal : (n : ℕ) → 0 < n → n < 1000000000 → number_of (decimal n) ≡ Some n
number_of-decimal n some small =
    let wide : n < 2 ^ 64 = omega (arith, small) in
    let numeral = decimal_is_IsNumeral n wide in
    let few : length (decimal n) ≤ 9 = length-decimal-le 9 n (omega arith) (omega (arith, small)) wide in
    let whole : take (length (decimal n)) (decimal n) ≡ decimal n = take_all (length (decimal n)) (decimal n) (omega arith) in
    let first = first_decimal n some wide in
    rw whole at (number_is (decimal n) (length (decimal n)) n (omega (arith, numeral.0.0)) few (omega arith)
    (ap (list_all is_ascii_digit) whole ∙ decimal_passes n small)
    (ne_eqb (get_or (decimal n) 0 0) 48 (λ e. absurd (omega (arith, e, first))))
    (sym (ap (λ ds. digits_value 10 ds) whole ∙ numeral.1)))

-- a number of more than k digits
pub more_digits : (k n : ℕ) → 10 ^ k ≤ n → n < 1000000000 → k < length (decimal n)
more_digits k n least small =
    let numeral = decimal_is_IsNumeral n (omega (arith, small)) in
    let below = digits_value-lt 10 (decimal n) numeral.0.1 in
    elim (cases_lt k (length (decimal n))) [
      | inl more ↦ more
      | inr few ↦ let bound : 10 ^ length (decimal n) ≤ 10 ^ k = pow-le-pow_right {n = 10} (omega arith) few in absurd (omega (arith, numeral.1, below, bound, least))
    ]

-- how many digits a number has
pub digits_are : (k n : ℕ) → 10 ^ k ≤ n → n < 10 ^ (k + 1) → n < 1000000000 → k + 1 ≡ length (decimal n)
digits_are k n least most small =
    omega (arith, more_digits k n least small, length-decimal-le (k + 1) n (omega arith) most (omega (arith, small)))

-- ---- the line

rises : (last n : ℕ) → last < n → n < 1000000000 → rising_number last (decimal n) ≡ Some n
rises last n more small =
    let above : (if nat_lt last n then Some n else None) ≡ Some n = rw (lt-ltb last n more) refl in
    ap (λ o. option_and_then (λ m. if nat_lt last m then Some m else None) o) (number_of-decimal n (omega (arith, more)) small) ∙ above

letter_lacks : (side : Side) → Lacks 32 (side_letter side ∷ [])
letter_lacks T = refl
letter_lacks N = refl

letter_names : (side : Side) → side_of (side_letter side ∷ []) ≡ Some side
letter_names T = refl
letter_names N = refl

begins : (last : ℕ) (row : Row) → last < row.number → row.number < 1000000000 → BeginsRow last (row_text row) row.number row.side (octets_word row.octets ++ 10 ∷ [])
begins last row more small = record {
  word = decimal row.number;
  letter = side_letter row.side;
  whole = refl;
  one_word = number_lacks 32 (decimal row.number) refl (decimal_passes row.number small);
  no_space = letter_lacks row.side;
  rises = rises last row.number more small;
  names = letter_names row.side;
}

some_octets : (os : List ℕ) → 0 < length os → octets_word os ≡ encode_upper os
some_octets [] h = absurd (omega (arith, h))
some_octets (o ∷ os) h = refl

row_line : (last : ℕ) (row : Row) → row.gap ≡ None → last < row.number → row.number < 1000000000 → IsBytes row.octets → 0 < length row.octets → length row.octets ≤ 4200 → BeginsLine last (row_text row) row []
row_line last row plain more small bytes some few =
    subst (λ g. BeginsLine last (row_text row) (record row { gap = g }) []) (sym plain)
    (decoded-line last row.number row.side (row_text row) (octets_word row.octets ++ 10 ∷ []) (encode_upper row.octets) row.octets [] (begins last row more small)
    (ap (λ (ds : List ℕ). ds ++ 10 ∷ []) (some_octets row.octets some)) (decode_of-encode_upper row.octets bytes) some few)

row_length : (row : Row) → 0 < length row.octets → length (row_text row) ≡ length (decimal row.number) + 3 + 2 * length row.octets + 1
row_length row some =
    let word : length (octets_word row.octets) ≡ 2 * length row.octets = ap (λ (xs : List ℕ). length xs) (some_octets row.octets some) ∙ length-encode_with upper_digits row.octets in
    omega (arith, length-append (decimal row.number) (32 ∷ side_letter row.side ∷ 32 ∷ (octets_word row.octets ++ 10 ∷ [])), length-append (octets_word row.octets) (10 ∷ []), word)

-- a reader that goes past the line of a row has read it
pub passes_row : (v after : Progress) (row : Row) → row.gap ≡ None → is_some v.interface ≡ true → length v.begun ≡ 0 → v.last < row.number → row.number < 1000000000 → IsBytes row.octets → 0 < length row.octets → length row.octets ≤ 4200
    → size_kind v.start 1 (length (decimal row.number) + 3 + 2 * length row.octets) ≡ None → after ≡ after_line (length (decimal row.number) + 3 + 2 * length row.octets) (record v { last = row.number }) → TakesRow v after (row_text row) [] row
passes_row v after row plain headed none more small bytes some few fits e =
    let size : length (row_text row) - 0 - 1 ≡ length (decimal row.number) + 3 + 2 * length row.octets = omega (arith, row_length row some) in
    let line : TakesLine v after (row_text row) [] row =
    takes-first v after (row_text row) [] row (row_line v.last row plain more small bytes some few) headed none (ap (size_kind v.start 1) size ∙ fits) (e ∙ ap (λ n. after_line n (record v { last = row.number })) (sym size)) in
    takes-row v v after row (row_text row) (row_text row) line.front [] (passed-none v (row_text row)) line.whole line.one_line line.ends
