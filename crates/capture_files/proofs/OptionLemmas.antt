-- The options of a block, read one by one.
use Rattle.std.proofs.Common.{◌≡◌, ◌≢◌, ◌∙◌, sym, ap, Bool, true, false, ℕ, zero, suc, ◌+◌, ◌-◌, ◌<◌, ◌≤◌, ◌⊎◌, inl, inr, List, [], ◌∷◌, Option, None, Some, arith, drop, length, length-drop, min, nat_eq, refl, take}
use Rattle.std.specs.Prelude.{if◌then◌else◌}
use Rattle.std.specs.Option.{option_or}
use Rattle.std.proofs.lemmas.Bool.{eqb-true, lt-ltb}
use Rattle.std.proofs.lemmas.Bool.Decides.{nat_tests}
use Rattle.std.proofs.lemmas.List.{drop-drop, nil_from_length, take_min}
use Rattle.capture_files.specs.Options.{BlockOption, drops_if, drops_in, first_option, flags_if, flags_in, has_option, last_value, option_size, options_in, options_within, or_value, value_if}

-- too few octets for an option
none_short : (big : Bool) (xs : List ℕ) → length xs < 4 → has_option big xs ≡ false
none_short big xs less = rw (lt-ltb (length xs) 4 less) refl

-- the options from the first one, by whether there is one
abbrev from_option : Bool → List ℕ → Bool → List BlockOption → List BlockOption
from_option big xs has more = elim has [
  | true ↦ first_option big xs ∷ more
  | false ↦ []
]

-- the bound makes no difference
within_bound : (m n : ℕ) (big : Bool) (xs : List ℕ) → length xs ≤ m → length xs ≤ n → options_within m big xs ≡ options_within n big xs
within_bound zero zero big xs l k = refl
within_bound zero (suc n) big xs l k = sym (ap (λ b. from_option big xs b (options_within n big (drop (option_size big xs) xs))) (none_short big xs (omega (arith, l))))
within_bound (suc m) zero big xs l k = ap (λ b. from_option big xs b (options_within m big (drop (option_size big xs) xs))) (none_short big xs (omega (arith, k)))
within_bound (suc m) (suc n) big xs l k =
    let size : ℕ = option_size big xs in
    let shorter : length (drop size xs) ≡ length xs - size = length-drop size xs in
    ap (from_option big xs (has_option big xs)) (within_bound m n big (drop size xs) (omega (arith, shorter, l)) (omega (arith, shorter, k)))

options_more : (big : Bool) (xs : List ℕ) → has_option big xs ≡ true → options_in big xs ≡ first_option big xs ∷ options_in big (drop (option_size big xs) xs)
options_more big [] has = cc has
options_more big (x ∷ xs) has =
    let size : ℕ = option_size big (x ∷ xs) in
    let shorter : length (drop size (x ∷ xs)) ≡ length (x ∷ xs) - size = length-drop size (x ∷ xs) in
    ap (λ b. from_option big (x ∷ xs) b (options_within (length xs) big (drop size (x ∷ xs)))) has
    ∙ ap (λ os. first_option big (x ∷ xs) ∷ os) (within_bound (length xs) (length (drop size (x ∷ xs))) big (drop size (x ∷ xs)) (omega (arith, shorter)) (omega arith))

options_none : (big : Bool) (xs : List ℕ) → has_option big xs ≡ false → options_in big xs ≡ []
options_none big [] none = refl
options_none big (x ∷ xs) none = ap (λ b. from_option big (x ∷ xs) b (options_within (length xs) big (drop (option_size big (x ∷ xs)) (x ∷ xs)))) none

-- those from the option at a place on
options_next : (big : Bool) (block : List ℕ) (at next : ℕ) → has_option big (drop at block) ≡ true → next ≡ at + option_size big (drop at block) → options_in big (drop at block) ≡ first_option big (drop at block) ∷ options_in big (drop next block)
options_next big block at next has is =
    options_more big (drop at block) has
    ∙ ap (λ xs. first_option big (drop at block) ∷ options_in big xs) (drop-drop (option_size big (drop at block)) at block ∙ ap (λ k. drop k block) (sym is))

-- ---- an option's value

-- the octets from its place on, as far as they are there
pub value_there : (block : List ℕ) (at from to size : ℕ) → from ≡ at + 4 → to ≡ min (from + size) (length block) → from ≤ length block → take (to - from) (drop from block) ≡ take size (drop 4 (drop at block))
value_there block at from to size is end there =
    let rest : length (drop from block) ≡ length block - from = length-drop from block in
    let count : to - from ≡ min size (length (drop from block)) = omega (arith, end, rest, there) in
    ap (λ k. take k (drop from block)) count
    ∙ take_min size (drop from block)
    ∙ ap (take size) (ap (λ k. drop k block) is ∙ sym (drop-drop 4 at block))

or_value_or : (xs ys zs : List ℕ) → or_value (or_value xs ys) zs ≡ or_value xs (or_value ys zs)
or_value_or [] ys zs = refl
or_value_or (x ∷ xs) ys zs = refl

or_value_some : (xs ys : List ℕ) → 0 < length xs → or_value xs ys ≡ xs
or_value_some [] ys some = absurd (omega (arith, some))
or_value_some (x ∷ xs) ys some = refl

-- an option of the code that has a value
pub found_here : (code : ℕ) (o : BlockOption) (found : List ℕ) → o.code ≡ code → 0 < length o.value → or_value (value_if code o) found ≡ o.value
found_here code o found is some =
    let its : value_if code o ≡ o.value = grind (arith, nat_tests) in
    ap (λ xs. or_value xs found) its ∙ or_value_some o.value found some

-- one of another code, or without a value
pub found_before : (code : ℕ) (o : BlockOption) (found : List ℕ) → (o.code ≢ code) ⊎ (length o.value ≡ 0) → or_value (value_if code o) found ≡ found
found_before code o found other = by_code (nat_eq o.code code) refl other
  where
    by_code : (b : Bool) → nat_eq o.code code ≡ b → (o.code ≢ code) ⊎ (length o.value ≡ 0) → or_value (if b then o.value else []) found ≡ found
    by_code false is other = refl
    by_code true is (inl differs) = absurd (differs (eqb-true o.code code is))
    by_code true is (inr none) = ap (λ xs. or_value xs found) (nil_from_length o.value none)

-- the values that are found from a place on, and the one that was found before
abbrev pub found_from : (code : ℕ) → Bool → (block : List ℕ) → (at : ℕ) → (found : List ℕ) → List ℕ
found_from code big block at found = or_value (last_value code (options_in big (drop at block))) found

pub found_next : (code : ℕ) (big : Bool) (block : List ℕ) (at next : ℕ) (found : List ℕ) → has_option big (drop at block) ≡ true → next ≡ at + option_size big (drop at block)
    → found_from code big block next (or_value (value_if code (first_option big (drop at block))) found) ≡ found_from code big block at found
found_next code big block at next found has is =
    sym (or_value_or (last_value code (options_in big (drop next block))) (value_if code (first_option big (drop at block))) found)
    ∙ ap (λ os. or_value (last_value code os) found) (sym (options_next big block at next has is))

pub found_last : (code : ℕ) (big : Bool) (block : List ℕ) (at : ℕ) (found : List ℕ) → has_option big (drop at block) ≡ false → found_from code big block at found ≡ found
found_last code big block at found none = ap (λ os. or_value (last_value code os) found) (options_none big (drop at block) none)

-- ---- what options say of a frame

pub flags_next : (big : Bool) (block : List ℕ) (at next : ℕ) (flags : Option ℕ) → has_option big (drop at block) ≡ true → next ≡ at + option_size big (drop at block)
    → option_or (option_or flags (flags_if big (first_option big (drop at block)))) (flags_in big (options_in big (drop next block))) ≡ option_or flags (flags_in big (options_in big (drop at block)))
flags_next big block at next None has is = ap (flags_in big) (sym (options_next big block at next has is))
flags_next big block at next (Some f) has is = refl

pub flags_last : (big : Bool) (block : List ℕ) (at : ℕ) (flags : Option ℕ) → has_option big (drop at block) ≡ false → option_or flags (flags_in big (options_in big (drop at block))) ≡ flags
flags_last big block at None none = ap (flags_in big) (options_none big (drop at block) none)
flags_last big block at (Some f) none = refl

pub drops_next : (big : Bool) (block : List ℕ) (at next : ℕ) → has_option big (drop at block) ≡ true → next ≡ at + option_size big (drop at block)
    → drops_in big (options_in big (drop at block)) ≡ drops_if big (first_option big (drop at block)) + drops_in big (options_in big (drop next block))
drops_next big block at next has is = ap (drops_in big) (options_next big block at next has is)

pub drops_last : (big : Bool) (block : List ℕ) (at : ℕ) → has_option big (drop at block) ≡ false → drops_in big (options_in big (drop at block)) ≡ 0
drops_last big block at none = ap (drops_in big) (options_none big (drop at block) none)
