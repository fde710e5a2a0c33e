-- Hex digits that are made lane by lane.
use Rattle.std.proofs.Common.{◌≡◌, ◌∙◌, refl, sym, ap, ap₂, ℕ, zero, suc, ◌+◌, ◌*◌, ◌/◌, ◌%◌, ◌<◌, true, cond, ltb, List, [], ◌∷◌, ◌++◌, append_assoc, map, length, take, drop, arith, bit_and}
use Rattle.std.specs.Prelude.{slice_index}
use Rattle.std.specs.List.{AllPass}
use Rattle.std.proofs.lemmas.Bool.{lt-ltb, ltb-true}
use Rattle.std.proofs.lemmas.List.{take-append-drop}
use Rattle.std.proofs.lemmas.List.Elements.{All-cons, All-head, All-nil, All-tail}
use Rattle.std.proofs.lemmas.Nat.{and_mask}
use lib.Lanes.{Each1, pick_l, top}
use lib.Seq.{take-append_seam}
use Rattle.hex.specs.Hex.{encode_upper, encode_with, upper_digits}
use Rattle.hex.proofs.HexLemmas.{length-encode_with}
use Rattle.capture_report.specs.HexDigits.{half_digit, is_half}

-- what a lane computes of a half octet
abbrev pub lane : ℕ → ℕ
lane h = (cond (top 7 (cond (ltb 9 h) 255 0)) 55 48 + h) % 256

lane_is : (n : ℕ) → n < 16 → lane n ≡ half_digit n
lane_is zero h = refl
lane_is (suc zero) h = refl
lane_is (suc (suc zero)) h = refl
lane_is (suc (suc (suc zero))) h = refl
lane_is (suc (suc (suc (suc zero)))) h = refl
lane_is (suc (suc (suc (suc (suc zero))))) h = refl
lane_is (suc (suc (suc (suc (suc (suc zero)))))) h = refl
lane_is (suc (suc (suc (suc (suc (suc (suc zero))))))) h = refl
lane_is (suc (suc (suc (suc (suc (suc (suc (suc zero)))))))) h = refl
lane_is (suc (suc (suc (suc (suc (suc (suc (suc (suc zero))))))))) h = refl
lane_is (suc (suc (suc (suc (suc (suc (suc (suc (suc (suc zero)))))))))) h = refl
lane_is (suc (suc (suc (suc (suc (suc (suc (suc (suc (suc (suc zero))))))))))) h = refl
lane_is (suc (suc (suc (suc (suc (suc (suc (suc (suc (suc (suc (suc zero)))))))))))) h = refl
lane_is (suc (suc (suc (suc (suc (suc (suc (suc (suc (suc (suc (suc (suc zero))))))))))))) h = refl
lane_is (suc (suc (suc (suc (suc (suc (suc (suc (suc (suc (suc (suc (suc (suc zero)))))))))))))) h = refl
lane_is (suc (suc (suc (suc (suc (suc (suc (suc (suc (suc (suc (suc (suc (suc (suc zero))))))))))))))) h = refl
lane_is (suc (suc (suc (suc (suc (suc (suc (suc (suc (suc (suc (suc (suc (suc (suc (suc n)))))))))))))))) h = omega (arith, h)

pub lanes_are : (hs : List ℕ) → AllPass is_half hs → map lane hs ≡ map half_digit hs
lanes_are [] k = refl
lanes_are (h ∷ hs) k = ap₂ (λ (d : ℕ) (ds : List ℕ). d ∷ ds) (lane_is h (ltb-true h 16 (All-head (λ x. is_half x ≡ true) h hs k))) (lanes_are hs (All-tail (λ x. is_half x ≡ true) h hs k))

-- both halves of octets
pub high_halves : (v : List ℕ) → Each1 (λ d. d < 256) v → AllPass is_half (map (λ x. x / 16) v)
high_halves [] k = All-nil (λ x. is_half x ≡ true)
high_halves (x ∷ xs) k = All-cons (λ h. is_half h ≡ true) (x / 16) (map (λ y. y / 16) xs) (lt-ltb (x / 16) 16 (omega (arith, k.0))) (high_halves xs k.1)

pub low_halves : (v : List ℕ) → AllPass is_half (map (λ x. x % 16) v)
low_halves [] = All-nil (λ x. is_half x ≡ true)
low_halves (x ∷ xs) = All-cons (λ h. is_half h ≡ true) (x % 16) (map (λ y. y % 16) xs) (lt-ltb (x % 16) 16 (omega arith)) (low_halves xs)

pub low_bits : (v : List ℕ) → map (λ x. bit_and x 15) v ≡ map (λ x. x % 16) v
low_bits [] = refl
low_bits (x ∷ xs) = ap₂ (λ (d : ℕ) (ds : List ℕ). d ∷ ds) (and_mask x 4) (low_bits xs)

-- the digits of high and low halves, by turns
abbrev pub by_turns : (high low : List ℕ) → List ℕ
by_turns high low = pick_l 0 (high ++ low) (0 ∷ 16 ∷ 1 ∷ 17 ∷ 2 ∷ 18 ∷ 3 ∷ 19 ∷ 4 ∷ 20 ∷ 5 ∷ 21 ∷ 6 ∷ 22 ∷ 7 ∷ 23 ∷ 8 ∷ 24 ∷ 9 ∷ 25 ∷ 10 ∷ 26 ∷ 11 ∷ 27 ∷ 12 ∷ 28 ∷ 13 ∷ 29 ∷ 14 ∷ 30 ∷ 15 ∷ 31 ∷ [])

pub interleaved : (v : List ℕ) → length v ≡ 16 → by_turns (map half_digit (map (λ x. x / 16) v)) (map half_digit (map (λ x. x % 16) v)) ≡ encode_upper v
unfolding encode_with
interleaved (a ∷ b ∷ c ∷ d ∷ e ∷ f ∷ g ∷ h ∷ i ∷ j ∷ k ∷ l ∷ m ∷ n ∷ o ∷ p ∷ []) s = refl
interleaved [] s = absurd (omega (arith, s))
interleaved (a ∷ []) s = absurd (omega (arith, s))
interleaved (a ∷ b ∷ []) s = absurd (omega (arith, s))
interleaved (a ∷ b ∷ c ∷ []) s = absurd (omega (arith, s))
interleaved (a ∷ b ∷ c ∷ d ∷ []) s = absurd (omega (arith, s))
interleaved (a ∷ b ∷ c ∷ d ∷ e ∷ []) s = absurd (omega (arith, s))
interleaved (a ∷ b ∷ c ∷ d ∷ e ∷ f ∷ []) s = absurd (omega (arith, s))
interleaved (a ∷ b ∷ c ∷ d ∷ e ∷ f ∷ g ∷ []) s = absurd (omega (arith, s))
interleaved (a ∷ b ∷ c ∷ d ∷ e ∷ f ∷ g ∷ h ∷ []) s = absurd (omega (arith, s))
interleaved (a ∷ b ∷ c ∷ d ∷ e ∷ f ∷ g ∷ h ∷ i ∷ []) s = absurd (omega (arith, s))
interleaved (a ∷ b ∷ c ∷ d ∷ e ∷ f ∷ g ∷ h ∷ i ∷ j ∷ []) s = absurd (omega (arith, s))
interleaved (a ∷ b ∷ c ∷ d ∷ e ∷ f ∷ g ∷ h ∷ i ∷ j ∷ k ∷ []) s = absurd (omega (arith, s))
interleaved (a ∷ b ∷ c ∷ d ∷ e ∷ f ∷ g ∷ h ∷ i ∷ j ∷ k ∷ l ∷ []) s = absurd (omega (arith, s))
interleaved (a ∷ b ∷ c ∷ d ∷ e ∷ f ∷ g ∷ h ∷ i ∷ j ∷ k ∷ l ∷ m ∷ []) s = absurd (omega (arith, s))
interleaved (a ∷ b ∷ c ∷ d ∷ e ∷ f ∷ g ∷ h ∷ i ∷ j ∷ k ∷ l ∷ m ∷ n ∷ []) s = absurd (omega (arith, s))
interleaved (a ∷ b ∷ c ∷ d ∷ e ∷ f ∷ g ∷ h ∷ i ∷ j ∷ k ∷ l ∷ m ∷ n ∷ o ∷ []) s = absurd (omega (arith, s))
interleaved (a ∷ b ∷ c ∷ d ∷ e ∷ f ∷ g ∷ h ∷ i ∷ j ∷ k ∷ l ∷ m ∷ n ∷ o ∷ p ∷ q ∷ qs) s = absurd (omega (arith, s))

pub encode-append : (xs ys : List ℕ) → encode_upper (xs ++ ys) ≡ encode_upper xs ++ encode_upper ys
unfolding encode_with
encode-append [] ys = refl
encode-append (x ∷ xs) ys = ap (λ (zs : List ℕ). slice_index upper_digits (x / 16) ∷ slice_index upper_digits (x % 16) ∷ zs) (encode-append xs ys)

-- the digits at the front
pub encode-front : (xs ys : List ℕ) → take (2 * length xs) (encode_upper (xs ++ ys)) ≡ encode_upper xs
encode-front xs ys =
    ap (take (2 * length xs)) (encode-append xs ys) ∙ ap (λ (n : ℕ). take n (encode_upper xs ++ encode_upper ys)) (sym (length-encode_with upper_digits xs))
    ∙ take-append_seam (encode_upper xs) (encode_upper ys)

-- a block of digits goes to those before it
pub block-appended : (out new digits block more rest before octets : List ℕ) → new ≡ out ++ digits → digits ≡ encode_upper block → block ≡ take 16 rest → more ≡ drop 16 rest
    → out ++ encode_upper rest ≡ before ++ encode_upper octets → new ++ encode_upper more ≡ before ++ encode_upper octets
block-appended out new digits block more rest before octets grown are first behind so_far =
    ap (λ (xs : List ℕ). xs ++ encode_upper more) (grown ∙ ap (λ (ds : List ℕ). out ++ ds) are) ∙ append_assoc out (encode_upper block) (encode_upper more)
    ∙ ap (λ (ds : List ℕ). out ++ ds) (sym (encode-append block more) ∙ ap encode_upper (ap₂ (λ (xs ys : List ℕ). xs ++ ys) first behind ∙ take-append-drop 16 rest)) ∙ so_far
