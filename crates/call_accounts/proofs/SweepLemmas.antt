-- A sweep over sorted times finds the peak.
use Rattle.std.proofs.Common.{◌≡◌, ℕ, zero, suc, ◌+◌, ◌<◌, ◌≤◌, ◌⊎◌, ◌&&◌, option_map, false, cond, nat_le, count_by, List, [], ◌∷◌, length, get_or, refl, sym, ◌∙◌, subst, arith, inl, inr, Option, Some, None, MatchOption}
use Rattle.std.proofs.lemmas.List.Sums.{sum_by-cons}
use Rattle.std.proofs.lemmas.Bool.Decides.{nat_tests}
use Rattle.std.specs.List.{filter_map, cons_option}
use Rattle.std.specs.List.Sorted.{IsNonDecreasing}
use Rattle.line_model.specs.observer.Peak.{is_after}
use Rattle.line_model.specs.basics.Records.{CallRecord}
use Rattle.line_model.specs.observer.Peak.{IsPeakOfTimes, how_many, is_up_at}
use Rattle.line_model.specs.observer.Calls.{up_at, up_times}
use Rattle.call_accounts.specs.Sweep.{up_to, height, is_call_up, IsHighest}

pub up_to-yes : (n x : ℕ) (xs : List ℕ) → x ≤ n → up_to n (x ∷ xs) ≡ 1 + up_to n xs
up_to-yes n x xs h = grind (arith, nat_tests, sum_by-cons (λ y. cond (nat_le y n) 1 0) x xs)

pub up_to-no : (n x : ℕ) (xs : List ℕ) → n < x → up_to n (x ∷ xs) ≡ up_to n xs
up_to-no n x xs h = grind (arith, nat_tests, sum_by-cons (λ y. cond (nat_le y n) 1 0) x xs)

either : (x n : ℕ) → (x ≤ n) ⊎ (n < x)
either zero n = inl (omega arith)
either (suc x) zero = inr (omega arith)
either (suc x) (suc n) = elim (either x n) [ inl h ↦ inl (omega arith) | inr h ↦ inr (omega arith) ]

-- where the first j lie up to n and the others after it, there are j
pub up_to-parted : (n : ℕ) (xs : List ℕ) (j : ℕ) → j ≤ length xs → ((k : ℕ) → k < j → get_or xs k 0 ≤ n) → ((k : ℕ) → j ≤ k → k < length xs → n < get_or xs k 0) → up_to n xs ≡ j
up_to-parted n [] j le below above = omega arith
up_to-parted n (x ∷ xs) zero le below above =
    up_to-no n x xs (above 0 (omega arith) (omega arith)) ∙ up_to-parted n xs zero (omega arith) (λ k h. absurd (omega arith)) (λ k h s. above (suc k) (omega arith) (omega arith))
up_to-parted n (x ∷ xs) (suc j) le below above =
    let later = up_to-parted n xs j (omega arith) (λ k h. below (suc k) (omega arith)) (λ k h s. above (suc k) (omega arith) (omega arith)) in
    omega (arith, up_to-yes n x xs (below 0 (omega arith)))

sorted_tail : (x : ℕ) (xs : List ℕ) → IsNonDecreasing (x ∷ xs) → IsNonDecreasing xs
sorted_tail x xs h = λ i j d le lt. h (suc i) (suc j) d (omega arith) (omega arith)

up_to-more : (n m : ℕ) (xs : List ℕ) → n ≤ m → up_to n xs ≤ up_to m xs
up_to-more n m [] h = omega arith
up_to-more n m (x ∷ xs) h =
    let later = up_to-more n m xs h in
    elim (either x n) [
      | inl le ↦ omega (arith, up_to-yes n x xs le, up_to-yes m x xs (omega arith))
      | inr lt ↦ elim (either x m) [
        | inl le ↦ omega (arith, up_to-no n x xs lt, up_to-yes m x xs le)
        | inr up ↦ omega (arith, up_to-no n x xs lt, up_to-no m x xs up)
      ]
    ]

-- up to the time at i there are the first i + 1
up_to-index : (xs : List ℕ) (i : ℕ) → IsNonDecreasing xs → i < length xs → i + 1 ≤ up_to (get_or xs i 0) xs
up_to-index [] i h lt = absurd (omega arith)
up_to-index (x ∷ xs) zero h lt = omega (arith, up_to-yes x x xs (omega arith))
up_to-index (x ∷ xs) (suc i) h lt =
    let le : x ≤ get_or xs i 0 = h 0 (suc i) 0 (omega arith) lt in
    let later = up_to-index xs i (sorted_tail x xs h) (omega arith) in
    omega (arith, up_to-yes (get_or xs i 0) x xs le)

-- the last of those up to n
up_to-last : (n : ℕ) (xs : List ℕ) (i : ℕ) → IsNonDecreasing xs → up_to n xs ≡ suc i → (i < length xs) × (get_or xs i 0 ≤ n)
up_to-last n [] i h e = absurd (omega arith)
up_to-last n (x ∷ xs) i h e = at (λ j. up_to-last n xs j (sorted_tail x xs h)) i e (either x n)
  where
    at : ((j : ℕ) → up_to n xs ≡ suc j → (j < length xs) × (get_or xs j 0 ≤ n)) → (i : ℕ) → up_to n (x ∷ xs) ≡ suc i → (x ≤ n) ⊎ (n < x) → (i < length (x ∷ xs)) × (get_or (x ∷ xs) i 0 ≤ n)
    at later zero e (inl le) = (omega arith, le)
    at later (suc i) e (inl le) = let w = later i (omega (arith, up_to-yes n x xs le)) in (omega (arith, w.0), w.1)
    at later i e (inr lt) =
        let w = later i (omega (arith, up_to-no n x xs lt)) in
        let le : x ≤ get_or xs i 0 = h 0 (suc i) 0 (omega arith) (omega (arith, w.0)) in
        absurd (omega (arith, w.1))

-- what a sweep that was right says of the calls
record IsSwept (cs : List CallRecord) (ups ends : List ℕ) : Type 0 where
  sorted : IsNonDecreasing ups
  counts : (n : ℕ) → up_at cs n + up_to n ends ≡ up_to n ups

-- a time has no more calls up than the last up before it is high
below_height : (cs : List CallRecord) (ups ends : List ℕ) → IsSwept cs ups ends → (n i : ℕ) → up_to n ups ≡ suc i → up_at cs n ≤ height ups ends i
below_height cs ups ends s n i e =
    let w = up_to-last n ups i s.sorted e in
    omega (arith, s.counts n, up_to-more (get_or ups i 0) n ends w.1)

above_height : (cs : List CallRecord) (ups ends : List ℕ) → IsSwept cs ups ends → (i : ℕ) → i < length ups → height ups ends i ≤ up_at cs (get_or ups i 0)
above_height cs ups ends s i lt = omega (arith, s.counts (get_or ups i 0), up_to-index ups i s.sorted lt)

at_most : (cs : List CallRecord) (ups ends : List ℕ) (count : ℕ) → IsSwept cs ups ends → ((i : ℕ) → i < length ups → height ups ends i ≤ count) → (n : ℕ) → up_at cs n ≤ count
at_most cs ups ends count s h n = at (up_to n ups) refl
  where
    at : (a : ℕ) → up_to n ups ≡ a → up_at cs n ≤ count
    at zero e = omega (arith, s.counts n)
    at (suc i) e = let w = up_to-last n ups i s.sorted e in omega (arith, below_height cs ups ends s n i e, h i w.0)

fewer_before : (cs : List CallRecord) (ups ends : List ℕ) (count i : ℕ) → IsSwept cs ups ends → 0 < count → i < length ups → ((k : ℕ) → k < i → height ups ends k < count) → (n : ℕ) → n < get_or ups i 0 → up_at cs n < count
fewer_before cs ups ends count i s some lt h n before = at (up_to n ups) refl
  where
    at : (a : ℕ) → up_to n ups ≡ a → up_at cs n < count
    at zero e = omega (arith, s.counts n)
    at (suc j) e =
        let w = up_to-last n ups j s.sorted e in
        elim (either i j) [
          | inl le ↦ absurd (omega (arith, w.1, s.sorted i j 0 le w.0))
          | inr up ↦ omega (arith, below_height cs ups ends s n j e, h j up)
        ]

pub peak_from_sweep : (cs : List CallRecord) (ups ends : List ℕ) (count : ℕ) (packet : Option ℕ) → IsNonDecreasing ups → ((n : ℕ) → up_at cs n + up_to n ends ≡ up_to n ups)
    → IsHighest ups ends (length ups) count packet → IsPeakOfTimes (up_at cs) count packet
peak_from_sweep cs ups ends count None sorted counts h = record {
  greatest = at_most cs ups ends count (record { sorted = sorted; counts = counts }) h.greatest;
  first = h.first;
}
peak_from_sweep cs ups ends count (Some u) sorted counts h =
    let s : IsSwept cs ups ends = record { sorted = sorted; counts = counts } in
    let w = h.first in
    let v = w.1 in
    let i : ℕ = v.0 in
    let most = at_most cs ups ends count s h.greatest in
    let same : u ≡ get_or ups i 0 = sym (v.2) in
    record {
      greatest = most;
      first = (
        w.0,
        subst (λ k. up_at cs k ≡ count) (sym same) (omega (arith, most (get_or ups i 0), above_height cs ups ends s i v.1, v.3)),
        λ k lt. fewer_before cs ups ends count i s w.0 v.1 v.4 k (omega (arith, same)),
      );
    }

-- one call more
pub up_at-cons : (c : CallRecord) (cs : List CallRecord) (n : ℕ) → up_at (c ∷ cs) n ≡ cond (is_call_up n c) 1 0 + up_at cs n
up_at-cons c cs n = at c.up
  where
    at : (u : Option ℕ) → how_many (is_up_at n) (cons_option (option_map (λ v. record { up = v; ended = c.ended }) u) (filter_map up_times cs)) ≡ cond (elim u [ Some v ↦ nat_le v n && is_after n c.ended | None ↦ false ]) 1 0 + up_at cs n
    at None = omega arith
    at (Some v) = refl

pub up_at-counted : (cs : List CallRecord) (n : ℕ) → up_at cs n ≡ count_by (is_call_up n) cs
up_at-counted [] n = refl
up_at-counted (c ∷ cs) n =
    let later = up_at-counted cs n in
    let bit : CallRecord → ℕ = λ x. cond (is_call_up n x) 1 0 in
    omega (arith, up_at-cons c cs n, sum_by-cons bit c cs)

pub highest_taken : (ups ends : List ℕ) (n count u : ℕ) (packet : Option ℕ) → IsHighest ups ends n count packet → count < height ups ends n → get_or ups n 0 ≡ u → IsHighest ups ends (n + 1) (height ups ends n) (Some u)
highest_taken ups ends n count u packet h lt e = record {
  greatest = λ i le. elim (either n i) [
    | inl up ↦ let same : i ≡ n = omega arith in subst (λ k. height ups ends k ≤ height ups ends n) (sym same) (omega arith)
    | inr low ↦ omega (arith, h.greatest i low)
  ];
  first = (omega arith, (n, omega arith, e, refl, λ k low. omega (arith, h.greatest k low)));
}

pub highest_kept : (ups ends : List ℕ) (n count : ℕ) (packet : Option ℕ) → IsHighest ups ends n count packet → height ups ends n ≤ count → IsHighest ups ends (n + 1) count packet
highest_kept ups ends n count packet h le = record {
  greatest = λ i lt. elim (either n i) [
    | inl up ↦ let same : i ≡ n = omega arith in subst (λ k. height ups ends k ≤ count) (sym same) le
    | inr low ↦ h.greatest i low
  ];
  first = at packet h.first;
}
  where
    at : (packet : Option ℕ)
        → MatchOption packet (count ≡ 0) (λ u. (0 < count) × ((i : ℕ) × (i < n) × (get_or ups i 0 ≡ u) × (height ups ends i ≡ count) × ((k : ℕ) → k < i → height ups ends k < count)))
        → MatchOption packet (count ≡ 0) (λ u. (0 < count) × ((i : ℕ) × (i < n + 1) × (get_or ups i 0 ≡ u) × (height ups ends i ≡ count) × ((k : ℕ) → k < i → height ups ends k < count)))
    at None w = w
    at (Some u) w = let v = w.1 in (w.0, (v.0, omega (arith, v.1), v.2, v.3, v.4))
