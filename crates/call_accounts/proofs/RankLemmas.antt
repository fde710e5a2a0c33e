-- The rank of an address, digit by digit, and that it is in the order of the addresses.
use Rattle.std.proofs.Common.{◌≡◌, ℕ, zero, suc, ◌+◌, ◌-◌, ◌*◌, ◌<◌, ◌≤◌, nat_lt, Bool, true, false, List, [], ◌∷◌, length, get_or, drop, refl, sym, ap, ◌∙◌, subst, arith}
use Rattle.std.specs.List.{AllByRecursion}
use Rattle.std.specs.Cmp.{ranks}
use Rattle.std.specs.declared.cmp.Ordering.{Ordering}
use Rattle.std.proofs.Common.{Less, Equal, Greater}
use Rattle.std.specs.Ordering.{MatchOrdering, nat_cmp, ordering_then}
use Rattle.std.proofs.lemmas.Map.Lookups.{exact_bytes}
use Rattle.std.proofs.lemmas.Bool.{ltb-true, ltb-false}
use Rattle.std.proofs.lemmas.List.{at_drop_more, at_drop_all}
use Rattle.call_accounts.specs.Entries.{digit_at, rank_behind, IsRank}
use Rattle.call_accounts.proofs.AddressLemmas.{order, less_from-greater}

-- the ranks of n digits are below it
abbrev pub weight : ℕ → ℕ
weight zero = 1
weight (suc n) = weight n * 257

pub weight_more : (i : ℕ) → weight (i + 1) ≡ weight i * 257
weight_more i = let e : i + 1 ≡ suc i = omega arith in ap weight e

weight_rises : (m n : ℕ) → m ≤ n → weight m ≤ weight n
weight_rises m zero le = let e : m ≡ zero = omega arith in subst (λ k. weight k ≤ 1) (sym e) (omega arith)
weight_rises zero (suc n) le = let later = weight_rises zero n (omega arith) in omega (arith, later)
weight_rises (suc m) (suc n) le = let later = weight_rises m n (omega arith) in omega (arith, later)

pub weight_below : (i : ℕ) → i < 15 → weight i ≤ weight 14
weight_below i lt = weight_rises i 14 (omega arith)

pub rank-more : (octets : List ℕ) (i r : ℕ) → i < 15 → rank_behind (15 - i) (drop i octets) r ≡ rank_behind (15 - (i + 1)) (drop (i + 1) octets) (r * 257 + digit_at octets i)
rank-more octets i r lt =
    ap (λ k. rank_behind k (drop i octets) r) more ∙ at (nat_lt i (length octets)) refl
  where
    n : ℕ
    n = 15 - (i + 1)

    more : 15 - i ≡ suc n
    more = omega arith

    at : (b : Bool) → nat_lt i (length octets) ≡ b → rank_behind (suc n) (drop i octets) r ≡ rank_behind n (drop (i + 1) octets) (r * 257 + elim b [ true ↦ get_or octets i 0 + 1 | false ↦ 0 ])
    at true e =
        let within : i < length octets = ltb-true i (length octets) e in
        at_drop_more (λ l. rank_behind (suc n) l r) octets i 0 within
    at false e =
        let past : length octets ≤ i = ltb-false i (length octets) e in
        let zero_more : r * 257 ≡ r * 257 + 0 = omega arith in
        at_drop_all (λ l. rank_behind (suc n) l r) octets i past
        ∙ ap (λ s. rank_behind n [] s) zero_more
        ∙ sym (at_drop_all (λ l. rank_behind n l (r * 257 + 0)) octets (i + 1) (omega arith))

pub all_octets : (xs : List ℕ) → ((i : ℕ) → get_or xs i 0 < 256) → AllByRecursion (λ x. x < 256) xs
all_octets [] h = tt
all_octets (x ∷ xs) h = (h 0, all_octets xs (λ i. h (suc i)))

-- ---- addresses by their ranks

abbrev Octets : List ℕ → Type 0
Octets xs = AllByRecursion (λ x. x < 256) xs

-- what comes before counts more than all that is after
rank-front : (n : ℕ) (xs ys : List ℕ) (r s : ℕ) → Octets xs → r < s → rank_behind n xs r < rank_behind n ys s
rank-front zero xs ys r s h lt = lt
rank-front (suc n) [] [] r s h lt = rank-front n [] [] (r * 257) (s * 257) tt (omega arith)
rank-front (suc n) [] (y ∷ ys) r s h lt = rank-front n [] ys (r * 257) (s * 257 + (y + 1)) tt (omega arith)
rank-front (suc n) (x ∷ xs) [] r s h lt = let few = h.0 in rank-front n xs [] (r * 257 + (x + 1)) (s * 257) h.1 (omega (arith, few))
rank-front (suc n) (x ∷ xs) (y ∷ ys) r s h lt = let few = h.0 in rank-front n xs ys (r * 257 + (x + 1)) (s * 257 + (y + 1)) h.1 (omega (arith, few))

rank-less : (n : ℕ) (xs ys : List ℕ) (r : ℕ) → length xs ≤ n → length ys ≤ n → Octets xs → order xs ys ≡ Less → rank_behind n xs r < rank_behind n ys r
rank-less n [] [] r fx fy h less = absurd (cc)
rank-less zero [] (y ∷ ys) r fx fy h less = absurd (omega arith)
rank-less (suc n) [] (y ∷ ys) r fx fy h less = rank-front n [] ys (r * 257) (r * 257 + (y + 1)) tt (omega arith)
rank-less n (x ∷ xs) [] r fx fy h less = absurd (cc)
rank-less zero (x ∷ xs) (y ∷ ys) r fx fy h less = absurd (omega arith)
rank-less (suc n) (x ∷ xs) (y ∷ ys) r fx fy h less =
    at (nat_cmp x y) (ranks x y) less (rank-less n xs ys (r * 257 + (y + 1)) (omega arith) (omega arith) h.1)
  where
    at : (o : Ordering) → MatchOrdering o (x < y) (x ≡ y) (y < x) → ordering_then o (order xs ys) ≡ Less
        → (order xs ys ≡ Less → rank_behind n xs (r * 257 + (y + 1)) < rank_behind n ys (r * 257 + (y + 1)))
        → rank_behind n xs (r * 257 + (x + 1)) < rank_behind n ys (r * 257 + (y + 1))
    at Less lt less later = rank-front n xs ys (r * 257 + (x + 1)) (r * 257 + (y + 1)) h.1 (omega arith)
    at Equal same less later = subst (λ z. rank_behind n xs (r * 257 + (z + 1)) < rank_behind n ys (r * 257 + (y + 1))) (sym same) (later less)
    at Greater gt less later = absurd (cc)

lower_rank : (r s : ℕ) (a b : List ℕ) → IsRank r a → IsRank s b → order a b ≡ Less → r < s
lower_rank r s a b h k less =
    let lt = rank-less 15 a b 0 h.few k.few h.octets less in
    omega (arith, h.is, k.is, lt)

pub less_from-ranks : (r s : ℕ) (a b : List ℕ) → IsRank r a → IsRank s b → r < s → order a b ≡ Less
less_from-ranks r s a b h k lt = at (order a b) refl
  where
    at : (o : Ordering) → order a b ≡ o → order a b ≡ Less
    at Less e = e
    at Equal e =
        let same : a ≡ b = exact_bytes a b e in
        let ranks : rank_behind 15 a 0 ≡ rank_behind 15 b 0 = ap (λ x. rank_behind 15 x 0) same in
        absurd (omega (arith, h.is, k.is, ranks))
    at Greater e = let gt = lower_rank s r b a k h (less_from-greater a b e) in absurd (omega (arith, gt))

pub same_from-ranks : (r s : ℕ) (a b : List ℕ) → IsRank r a → IsRank s b → r ≡ s → a ≡ b
same_from-ranks r s a b h k same = at (order a b) refl
  where
    at : (o : Ordering) → order a b ≡ o → a ≡ b
    at Less e = let lt = lower_rank r s a b h k e in absurd (omega (arith, lt))
    at Equal e = exact_bytes a b e
    at Greater e = let gt = lower_rank s r b a k h (less_from-greater a b e) in absurd (omega (arith, gt))
