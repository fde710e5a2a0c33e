-- Pairs, one at a time.
use Rattle.std.proofs.Common.{◌≡◌, ◌≤◌, ◌<◌, ℕ, Bool, true, false, cond, arith, refl, sym, ◌∙◌, ap, List, [], ◌∷◌, length, drop, take}
use Rattle.std.specs.Prelude.{◌-◌, not, slice_index}
use Rattle.std.proofs.lemmas.List.Sums.{take_while-cons}
use Rattle.line_model.specs.channels.Pad as pad
use Rattle.pad.specs.Pairs.{pairs_before}
use Rattle.line_model.proofs.DeviceLemmas.{rest_of}

-- the first of some pairs, and those after it
pub first_pair : (indication : Bool) (xs : List ℕ) → 2 ≤ length xs →
    pad.is_separator indication (record { reference = slice_index xs 0; value = slice_index xs 1 }) ≡ false →
    pairs_before indication xs ≡ record { reference = slice_index xs 0; value = slice_index xs 1 } ∷ pairs_before indication (take (length xs - 2) (drop 2 xs))
first_pair indication [] l no_separator = absurd (omega arith)
first_pair indication (r ∷ []) l no_separator = absurd (omega arith)
first_pair indication (r ∷ v ∷ rest) l no_separator =
    let p : pad.Pair = record { reference = r; value = v } in
    let kept : pairs_before indication (r ∷ v ∷ rest) ≡ p ∷ pairs_before indication rest =
    take_while-cons (λ q. not (pad.is_separator indication q)) p (pad.pairs_of rest)
    ∙ ap (λ b. cond (not b) (p ∷ pairs_before indication rest) []) no_separator in
    kept ∙ ap (λ l. p ∷ pairs_before indication l) (sym (rest_of (r ∷ v ∷ rest) 2))

-- where there is none
pub no_pair : (indication : Bool) (xs : List ℕ) → length xs < 2 → pairs_before indication xs ≡ []
no_pair indication [] few = refl
no_pair indication (r ∷ []) few = refl
no_pair indication (r ∷ v ∷ rest) few = absurd (omega arith)

pub no_pair_before : (indication : Bool) (xs : List ℕ) → 2 ≤ length xs →
    pad.is_separator indication (record { reference = slice_index xs 0; value = slice_index xs 1 }) ≡ true → pairs_before indication xs ≡ []
no_pair_before indication [] l separator = absurd (omega arith)
no_pair_before indication (r ∷ []) l separator = absurd (omega arith)
no_pair_before indication (r ∷ v ∷ rest) l separator =
    let p : pad.Pair = record { reference = r; value = v } in
    take_while-cons (λ q. not (pad.is_separator indication q)) p (pad.pairs_of rest)
    ∙ ap (λ b. cond (not b) (p ∷ pairs_before indication rest) []) separator
