-- Plausible headers one after the other.
use Rattle.std.proofs.Common.{◌≡◌, ◌∙◌, sym, ap, refl, ℕ, zero, suc, ◌+◌, ◌*◌, ◌<◌, ◌≤◌, ◌==◌, ◌&&◌, Bool, true, false, cond, min, List, [], ◌∷◌, arith, drop, length}
use Rattle.std.proofs.lemmas.List.{drop_min}
use Rattle.xot_circuits.specs.Packets.{header}
use Rattle.xot_circuits.specs.Joining.{are_plausible, is_plausible}
use Rattle.xot_circuits.specs.declared.header.Header.TheVariants.{OtherVersion, Length}

plausible_drop : (n : ℕ) (xs : List ℕ) → are_plausible n xs ≡ are_plausible 0 (drop n xs)
unfolding are_plausible
plausible_drop zero xs = refl
plausible_drop (suc n) [] = refl
plausible_drop (suc n) (x ∷ xs) = plausible_drop n xs

length_is : (b : Bool) (m v n : ℕ) → cond b (Length m) (OtherVersion v) ≡ Length n → m ≡ n
length_is true m v n h = cc h
length_is false m v n h = absurd (cc h)

-- what follows a plausible header and its packet
plausible_on : (xs : List ℕ) (n k : ℕ) → header xs ≡ Length n → is_plausible (header xs) ≡ true → k ≡ 4 + n → are_plausible 0 xs ≡ are_plausible 0 (drop k xs)
unfolding are_plausible
plausible_on [] n k h p e = absurd (cc h)
plausible_on (a ∷ []) n k h p e = absurd (cc h)
plausible_on (a ∷ b ∷ []) n k h p e = absurd (cc h)
plausible_on (a ∷ b ∷ c ∷ []) n k h p e = absurd (cc h)
plausible_on (a ∷ b ∷ c ∷ d ∷ xs) n k h p e =
    let size : c * 256 + d ≡ n = length_is (a * 256 + b == 0) (c * 256 + d) (a * 256 + b) n h in
    let steps : k ≡ suc (suc (suc (suc (c * 256 + d)))) = omega (arith, e, size) in
    ap (λ (t : Bool). t && are_plausible (c * 256 + d) xs) p
    ∙ (plausible_drop (c * 256 + d) xs
    ∙ ap (λ (j : ℕ). are_plausible 0 (drop j (a ∷ b ∷ c ∷ d ∷ xs))) (sym steps))

pub plausible_after : (xs : List ℕ) (n : ℕ) → header xs ≡ Length n → is_plausible (header xs) ≡ true
    → are_plausible 0 xs ≡ are_plausible 0 (drop (min (4 + n) (length xs)) xs)
plausible_after xs n h p = plausible_on xs n (4 + n) h p refl ∙ ap (are_plausible 0) (sym (drop_min (4 + n) xs))

pub plausible_not : (xs : List ℕ) → 4 ≤ length xs → is_plausible (header xs) ≡ false → are_plausible 0 xs ≡ false
unfolding are_plausible
plausible_not [] le h = absurd (omega (arith, le))
plausible_not (a ∷ []) le h = absurd (omega (arith, le))
plausible_not (a ∷ b ∷ []) le h = absurd (omega (arith, le))
plausible_not (a ∷ b ∷ c ∷ []) le h = absurd (omega (arith, le))
plausible_not (a ∷ b ∷ c ∷ d ∷ xs) le h = ap (λ (t : Bool). t && are_plausible (c * 256 + d) xs) h

pub plausible_few : (xs : List ℕ) → length xs < 4 → are_plausible 0 xs ≡ true
unfolding are_plausible
plausible_few [] lt = refl
plausible_few (a ∷ []) lt = refl
plausible_few (a ∷ b ∷ []) lt = refl
plausible_few (a ∷ b ∷ c ∷ []) lt = refl
plausible_few (a ∷ b ∷ c ∷ d ∷ xs) lt = absurd (omega (arith, lt))
