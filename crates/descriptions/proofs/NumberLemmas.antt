-- The value of a word of at most twelve digits, as it is read from the left.
use Rattle.std.proofs.Common.{◌≡◌, ℕ, ◌+◌, ◌-◌, ◌*◌, ◌<◌, ◌≤◌, ◌&&◌, true, List, [], ◌∷◌, length, take, get_or, arith}
use Rattle.std.specs.Prelude.{nat_le}
use Rattle.std.specs.Char.{is_ascii_digit, digit_value}
use Rattle.std.specs.List.{list_all}
use Rattle.std.specs.Str.Parse.{digits_value, AllDigits}
use Rattle.std.proofs.lemmas.Bool.Decides.{nat_tests}
use Rattle.std.proofs.lemmas.Bool.{leb-true}
use Rattle.std.proofs.lemmas.Str.{digit_value_digit}
use Rattle.std.proofs.lemmas.Str.Parse.{digits_value-take-le, digits_value_short, numerals_by_value, tells_digits, digit_at}
use Rattle.std.proofs.lemmas.Int.Digits.{digits_value_more}
use Rattle.trace_text.proofs.NumberLemmas.{both}
use Rattle.descriptions.specs.Circuits.{is_whole}

digit_range : (c : ℕ) → is_ascii_digit c ≡ true → (48 ≤ c) × (c ≤ 57)
digit_range c h = grind (arith, nat_tests)

digit_small : (c : ℕ) → is_ascii_digit c ≡ true → digit_value c < 10
digit_small c h = let r = digit_range c h in omega (arith, digit_value_digit c r, r)

all_digits : (word : List ℕ) → list_all is_ascii_digit word ≡ true → AllDigits 10 word
all_digits [] h = tt
all_digits (c ∷ cs) h = let b = both _ _ h in (digit_small c b.0, all_digits cs b.1)

whole_parts : (word : List ℕ) → is_whole word ≡ true → (length word ≤ 12) × AllDigits 10 word
whole_parts word h =
    let rest = both (nat_le 1 (length word)) (nat_le (length word) 12 && list_all is_ascii_digit word) h in
    let b = both (nat_le (length word) 12) (list_all is_ascii_digit word) rest.1 in
    (leb-true (length word) 12 b.0, all_digits word b.1)

-- the digit at i goes onto the value of those before it, which stays small
pub whole_step : (word : List ℕ) (i value : ℕ) → is_whole word ≡ true → i < length word → value ≡ digits_value 10 (take i word) →
    (value * 10 + (get_or word i 0 - 48) ≡ digits_value 10 (take (i + 1) word)) × (value * 10 + (get_or word i 0 - 48) < 1000000000000)
whole_step word i value h n v =
    let parts = whole_parts word h in
    let range = digit_at word i parts.1 n in
    let next = digits_value_more 10 word i n in
    let whole = digits_value-take-le 10 word (i + 1) (omega arith) in
    let small = digits_value_short (numerals_by_value (AllDigits 10) tells_digits) word 12 parts.1 parts.0 in
    let digit = digit_value_digit (get_or word i 0) range in
    (omega (arith, next, digit, range, v), omega (arith, next, digit, range, v, whole, small))
