-- How many pairs a message has.
use Rattle.std.proofs.Common.{◌≡◌, ◌≤◌, ◌+◌, ℕ, Bool, true, false, cond, arith, ap, List, [], ◌∷◌, length}
use Rattle.std.specs.Prelude.{not, take_while}
use Rattle.std.proofs.lemmas.List.Sums.{take_while-cons}
use Rattle.line_model.specs.channels.Pad.{Pair, pairs_of, is_separator}
use Rattle.pad.specs.Pairs.{pairs_before}

-- two octets a pair
pairs_half : (xs : List ℕ) → length (pairs_of xs) + length (pairs_of xs) ≤ length xs
pairs_half [] = omega arith
pairs_half (r ∷ []) = omega arith
pairs_half (r ∷ v ∷ rest) = let h : length (pairs_of rest) + length (pairs_of rest) ≤ length rest = pairs_half rest in omega (arith, h)

-- no more pass than there are
fewer : (p : Pair → Bool) (xs : List Pair) → length (take_while p xs) ≤ length xs
fewer p [] = omega arith
fewer p (x ∷ xs) =
    let e : length (take_while p (x ∷ xs)) ≡ length (cond (p x) (x ∷ take_while p xs) []) = ap (λ l. length l) (take_while-cons p x xs) in
    let h : length (cond (p x) (x ∷ take_while p xs) []) ≤ length (x ∷ xs) = by (p x) (fewer p xs) in
    omega (arith, e, h)
  where
    by : (b : Bool) → length (take_while p xs) ≤ length xs → length (cond b (x ∷ take_while p xs) []) ≤ length (x ∷ xs)
    by true h = omega (arith, h)
    by false h = omega arith

-- the standard pairs of octets
pub few_pairs : (b : Bool) (xs : List ℕ) (ps : List Pair) → ps ≡ pairs_before b xs → length ps + length ps ≤ length xs
few_pairs b xs ps e =
    let n : length ps ≡ length (pairs_before b xs) = ap (λ l. length l) e in
    let h : length (pairs_before b xs) ≤ length (pairs_of xs) = fewer (λ p. not (is_separator b p)) (pairs_of xs) in
    let k : length (pairs_of xs) + length (pairs_of xs) ≤ length xs = pairs_half xs in
    omega (arith, n, h, k)
