-- Digits at the front of a text that are counted, and not converted.
use Rattle.std.proofs.Common.{◌≡◌, ◌∙◌, sym, ap, refl, subst, ℕ, ◌+◌, ◌-◌, ◌*◌, ◌/◌, ◌%◌, ◌<◌, ◌≤◌, true, List, [], ◌∷◌, ◌++◌, length, map, min, replicate, take, take_all, w64, w8, drop, get_or, ltb, length-take-le, Bool, false, leb, get_or-take, Option, Some, None, append_assoc, arith, length-append, take-take}
use Rattle.std.specs.Prelude.{is_some, not, zero, suc}
use Rattle.std.specs.Int.{trailing_ones}
use Rattle.std.specs.List.{AllPass, range_with_len}
use lib.Seq.{take-append-add}
use Rattle.std.proofs.lemmas.Bool.{leb-false, leb-true}
use Rattle.std.proofs.Math.Nat.{min-le_left, min-le_right}
use Rattle.std.proofs.lemmas.List.{take-append-drop, take-append-le}
use Rattle.std.proofs.lemmas.List.Elements.{All-append, All-from_get_or, All-head, All-tail, All-take}
use Rattle.std.proofs.lemmas.Simd.{Each1-from_get_or, below_from_Fits, get_or-chunk, length-chunk}
use lib.Lanes.{chunk}
use mir.Val.{Fits}
use Rattle.hex.specs.Hex.{hex_digit_value, is_hex_digit}
use Rattle.trace_text.specs.Digits.{AreDigitValues, AreOctets, BeginsOctets, HasValues, IsDigitValue, octet_in}
use Rattle.trace_text.proofs.DigitLemmas.{right_digit, twice}
use Rattle.trace_text.proofs.DigitValueLemmas.{are_hits}
use Rattle.trace_text.proofs.LaneLemmas.{AreHits, all_hits, first_least, mask_of}

octet_there : (h l : Option ℕ) → is_some h ≡ true → is_some l ≡ true → (octet : ℕ) × (octet_in h l ≡ Some octet)
octet_there None l p q = cc
octet_there (Some h) None p q = cc
octet_there (Some h) (Some l) p q = (h * 16 + l, refl)

-- an even number of digits writes octets
octets_there : (digits : List ℕ) → AllPass is_hex_digit digits → length digits % 2 ≡ 0 → (octets : List ℕ) × AreOctets digits octets
octets_there [] h even = ([], tt)
octets_there (a ∷ []) h even = absurd (omega (arith, even))
octets_there (a ∷ b ∷ ds) h even =
    let more : AllPass is_hex_digit (b ∷ ds) = All-tail (λ d. is_hex_digit d ≡ true) a (b ∷ ds) h in
    let rest = octets_there ds (All-tail (λ d. is_hex_digit d ≡ true) b ds more) (omega (arith, even)) in
    let octet = octet_there (hex_digit_value a) (hex_digit_value b) (All-head (λ d. is_hex_digit d ≡ true) a (b ∷ ds) h) (All-head (λ d. is_hex_digit d ≡ true) b ds more) in
    (octet.0 ∷ rest.0, (octet.1, rest.1))

pub begins-octets : (text rest : List ℕ) (count : ℕ) → count ≤ length text → AllPass is_hex_digit (take count text) → 6 ≤ count → count ≤ 8400 → count % 2 ≡ 0 → drop count text ≡ 10 ∷ rest → BeginsOctets text (count / 2) rest
begins-octets text rest count there digits some few even at =
    let size : length (take count text) ≡ count = length-take-le count text there in
    let octets = octets_there (take count text) digits (omega (arith, size, even)) in
    let double = twice (take count text) octets.0 octets.1 in
    record {
      octets = octets.0;
      digits = record { digits = take count text; whole = sym (take-append-drop count text) ∙ ap (λ xs. take count text ++ xs) at; octets_are = octets.1 };
      count = omega (arith, double, size);
      some = omega (arith, some);
      few = omega (arith, few);
    }

-- the LF after them
pub line-end : (text back : List ℕ) (count : ℕ) → back ≡ drop count text → 1 ≤ length back → get_or back 0 0 ≡ 10 → drop count text ≡ 10 ∷ take (length back - 1) (drop 1 back)
line-end text back count rest long first = sym rest ∙ begins back long first
  where
    begins : (xs : List ℕ) → 1 ≤ length xs → get_or xs 0 0 ≡ 10 → xs ≡ 10 ∷ take (length xs - 1) (drop 1 xs)
    begins [] n e = absurd (omega (arith, n))
    begins (x ∷ xs) n e = let tail : take (length (x ∷ xs) - 1) xs ≡ xs = take_all (length (x ∷ xs) - 1) xs (omega arith) in λ i. e i ∷ sym tail i

-- the digits that were counted
pub record HasCounted (text rest : List ℕ) : Type 0 where
  pub done : List ℕ
  pub whole : text ≡ done ++ rest
  pub digits : AllPass is_hex_digit done

pub counts-block : (text rest block more : List ℕ) → HasCounted text rest → rest ≡ block ++ more → AllPass is_hex_digit block → HasCounted text more
counts-block text rest block more c e digits = record {
  done = c.done ++ block;
  whole = c.whole ∙ ap (λ xs. c.done ++ xs) e ∙ sym (append_assoc c.done block more);
  digits = All-append (λ b. is_hex_digit b ≡ true) c.done block c.digits digits;
}

-- the last bytes, with zeros after them
pub counts-last : (text padded : List ℕ) (count n : ℕ) → padded ≡ text ++ replicate n 0 → AllPass is_hex_digit (take count padded) → AllPass is_hex_digit (take (min count (length text)) text)
counts-last text padded count n e digits =
    let least : ℕ = min count (length text) in
    let same : take least (take count padded) ≡ take least text = take-take least count padded (min-le_left count (length text)) ∙ ap (take least) e ∙ take-append-le least text (replicate n 0) (min-le_right count (length text)) in
    subst (AllPass is_hex_digit) same (All-take (λ d. is_hex_digit d ≡ true) least (take count padded) digits)

-- they end in what is left
pub counted-last : (text rest : List ℕ) (count n : ℕ) → HasCounted text rest → AllPass is_hex_digit (take count rest) → n ≡ length text - length rest + count → AllPass is_hex_digit (take n text)
counted-last text rest count n c digits m =
    let size : n ≡ length c.done + count = omega (arith, m, ap (λ (xs : List ℕ). length xs) c.whole, length-append c.done rest) in
    let front : take n text ≡ c.done ++ take count rest = ap (take n) c.whole ∙ ap (λ (k : ℕ). take k (c.done ++ rest)) size ∙ take-append-add c.done rest count in
    subst (AllPass is_hex_digit) (sym front) (All-append (λ b. is_hex_digit b ≡ true) c.done (take count rest) c.digits digits)

-- and in its first block
pub counted : (text rest block : List ℕ) (count n : ℕ) → HasCounted text rest → block ≡ take 64 rest → count ≤ 64 → AllPass is_hex_digit (take count block) → n ≡ length text - length rest + count → AllPass is_hex_digit (take n text)
counted text rest block count n c e few digits m =
    counted-last text rest count n c (subst (AllPass is_hex_digit) (ap (take count) e ∙ take-take count 64 rest few) digits) m

-- where the function gives 128 and more for the digits alone, the bytes before the lowest bit that is not set are digits
pub first-digits : (f : ℕ → ℕ) (bytes hits : List ℕ) → length bytes ≡ 64 → ((i : ℕ) → Fits w8 (get_or bytes i 0)) → hits ≡ map f (chunk 0 64 bytes) → are_hits 0 (map f (range_with_len 0 256)) ≡ true →
    (trailing_ones w64 (mask_of leb 64 128 hits) ≤ 64) × AllPass is_hex_digit (take (trailing_ones w64 (mask_of leb 64 128 hits)) bytes)
first-digits f bytes hits whole fits e all = (
  first.0,
  All-from_get_or (λ b. is_hex_digit b ≡ true) (take count bytes) 0 (λ i l.
      let less : i < count = omega (arith, l, length-take-le count bytes (omega (arith, whole, first.0))) in
      ap is_hex_digit (get_or-take count bytes i 0 less ∙ sym (lane i (omega (arith, less, first.0)))) ∙ sym (are.1 i (omega (arith, less, first.0, lanes))) ∙ first.1 i less),
)
  where
    lanes : length (chunk 0 64 bytes) ≡ 64
    lanes = length-chunk 0 64 bytes (omega (arith, whole))

    lane : (i : ℕ) → i < 64 → get_or (chunk 0 64 bytes) i 0 ≡ get_or bytes i 0
    lane i l = get_or-chunk 0 64 bytes i 0 l ∙ ap (λ m. get_or bytes m 0) (omega arith)

    are : AreHits (chunk 0 64 bytes) hits
    are = all_hits f (chunk 0 64 bytes) hits (below_from_Fits w8 (chunk 0 64 bytes) (Each1-from_get_or (Fits w8) (chunk 0 64 bytes) 0 (λ i l. subst (Fits w8) (sym (lane i (omega (arith, l, lanes)))) (fits i)))) e all

    count : ℕ
    count = trailing_ones w64 (mask_of leb 64 128 hits)

    first : (count ≤ 64) × ((i : ℕ) → i < count → not (ltb (get_or hits i 0) 128) ≡ true)
    first = first_least 128 hits (are.0 ∙ lanes)

-- ---- the values of the first 32 bytes

zeros : (n i : ℕ) → get_or {A = ℕ} (replicate n 0) i 0 ≡ 0
zeros zero i = refl
zeros (suc n) zero = refl
zeros (suc n) (suc i) = zeros n i

pub get_or-zeros : (xs : List ℕ) (n i : ℕ) → get_or (xs ++ replicate n 0) i 0 ≡ get_or xs i 0
get_or-zeros [] n i = zeros n i
get_or-zeros (x ∷ xs) n zero = refl
get_or-zeros (x ∷ xs) n (suc i) = get_or-zeros xs n i

beyond : (xs : List ℕ) → get_or xs (length xs) 0 ≡ 0
beyond [] = refl
beyond (x ∷ xs) = beyond xs

pub has-values : (text block values : List ℕ) → AreDigitValues (chunk 0 32 block) values → length block ≡ 32 → ((i : ℕ) → i < 32 → get_or block i 0 ≡ get_or text i 0) → HasValues text values
has-values text block values are long same =
    let size : length (chunk 0 32 block) ≡ 32 = length-chunk 0 32 block (omega (arith, long)) in (
      are.0 ∙ size,
      λ i h. subst (λ (b : ℕ). IsDigitValue b (get_or values i 0)) (get_or-chunk 0 32 block i 0 h ∙ ap (λ m. get_or block m 0) (omega arith) ∙ same i h) (are.1 i (omega (arith, h, size))),
    )

-- values below 16 are those of digits, which the text has
pub digits-first : (text values : List ℕ) (count : ℕ) → HasValues text values → count ≤ 32 → ((i : ℕ) → i < count → get_or values i 0 < 16) → (count ≤ length text) × AllPass is_hex_digit (take count text)
digits-first text values count has few low = (
  there,
  All-from_get_or (λ b. is_hex_digit b ≡ true) (take count text) 0 (λ i l.
      let less : i < count = omega (arith, l, length-take-le count text there) in
      ap is_hex_digit (get_or-take count text i 0 less) ∙ ap is_some (right_digit (get_or text i 0) (get_or values i 0) (has.1 i (omega (arith, less, few))) (low i less))),
)
  where
    no_digit : (byte value : ℕ) → byte ≡ 0 → hex_digit_value byte ≡ Some value → ⊥
    no_digit byte value e h = let none : hex_digit_value 0 ≡ Some value = subst (λ b. hex_digit_value b ≡ Some value) e h in cc

    fits : (b : Bool) → leb count (length text) ≡ b → count ≤ length text
    fits true e = leb-true count (length text) e
    fits false e =
        let i : ℕ = length text in
        let less : i < count = leb-false count (length text) e in
        absurd (no_digit (get_or text i 0) (get_or values i 0) (beyond text) (right_digit (get_or text i 0) (get_or values i 0) (has.1 i (omega (arith, less, few))) (low i less)))

    there : count ≤ length text
    there = fits (leb count (length text)) refl

-- they are counted
pub counted-first : (text : List ℕ) → (32 ≤ length text) × AllPass is_hex_digit (take 32 text) → HasCounted text (drop 32 text)
counted-first text first = record { done = take 32 text; whole = sym (take-append-drop 32 text); digits = first.1 }
