-- What a binary search finds among frames.
use Rattle.std.specs.Prelude.{◌≡◌, ℕ, ◌==◌, ◌<◌, ◌≤◌, true, false, List, Result, Ok, Err}
use Rattle.std.specs.List.{list_any, slice_index_or}
use Rattle.std.specs.List.Sorted.{IsBinarySearchResult, IsNonDecreasing}
use Rattle.std.specs.Ordering.{nat_cmp}
use Rattle.std.specs.Result.{is_ok}
use Rattle.std.proofs.Common.{sym, ◌∙◌, ap, arith, inl, inr}
use Rattle.std.proofs.lemmas.Bool.{cases_lt}
use Rattle.std.proofs.lemmas.List.{get_or_default}
use Rattle.std.proofs.lemmas.List.Folds.{list_any_at, list_any_none}
use Rattle.std.proofs.lemmas.List.Sorted.{searched}

equals : (a b : ℕ) → a ≡ b → (a == b) ≡ true
equals a b h = grind (arith, h)

below : (a b : ℕ) → a < b → (a == b) ≡ false
below a b h = grind (arith, h)

above : (a b : ℕ) → b < a → (a == b) ≡ false
above a b h = grind (arith, h)

unlike : (v x k i : ℕ) → (k < i → v < x) → (i ≤ k → x < v) → (v == x) ≡ false
unlike v x k i low high = elim (cases_lt k i) as (λ _. (v == x) ≡ false) [ inl h ↦ below v x (low h) | inr h ↦ above v x (high h) ]

pub found_among : (xs : List ℕ) (x : ℕ) (r : Result ℕ ℕ) → IsBinarySearchResult (λ y. nat_cmp y x) xs r → IsNonDecreasing xs → is_ok r ≡ list_any (λ f. f == x) xs
found_among xs x (Ok i) h order =
    let s = searched xs x (Ok i) h (λ i j. order i j 0) in
    sym (list_any_at (λ f. f == x) xs i 0 s.0 (equals (slice_index_or xs i 0) x s.1))
found_among xs x (Err i) h order =
    let s = searched xs x (Err i) h (λ i j. order i j 0) in
    sym (list_any_none (λ f. f == x) xs (λ k d low. ap (λ v. v == x) (get_or_default xs k d 0 low) ∙ unlike (slice_index_or xs k 0) x k i (s.1 k) (λ l. s.2 k l low)))
