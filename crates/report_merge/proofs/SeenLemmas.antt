-- Marks of the ids that were seen.
use Rattle.std.proofs.Common.{◌≡◌, ℕ, zero, suc, ◌+◌, ◌<◌, ◌==◌, ◌||◌, not, nat_lt, Bool, true, false, cond, List, [], ◌∷◌, length, get_or, set, drop, count_by, refl, sym, ap, ◌∙◌, subst, arith, Option, Some, None, if◌then◌else◌}
use Rattle.std.proofs.lemmas.Bool.Decides.{nat_tests}
use Rattle.std.proofs.lemmas.List.Sums.{sum_by-cons}
use Rattle.report_merge.specs.Seen.{double_with, is_among}
use Rattle.report_merge.specs.Refusal.{unknown_id}

later_apart : (k : ℕ) → (suc k == 0) ≡ false
later_apart k = grind (arith, nat_tests)

front_apart : (k : ℕ) → (0 == suc k) ≡ false
front_apart k = grind (arith, nat_tests)

both_later : (k i : ℕ) → (suc k == suc i) ≡ (k == i)
both_later k i = grind (arith, nat_tests)

pub marked-at : (s : List Bool) (i k : ℕ) → i < length s → get_or (set s i true) k false ≡ ((k == i) || get_or s k false)
marked-at [] i k lt = absurd (omega arith)
marked-at (b ∷ s) zero zero lt = refl
marked-at (b ∷ s) zero (suc k) lt = sym (ap (λ x. x || get_or s k false) (later_apart k))
marked-at (b ∷ s) (suc i) zero lt = sym (ap (λ x. x || b) (front_apart i))
marked-at (b ∷ s) (suc i) (suc k) lt = marked-at s i k (omega arith) ∙ sym (ap (λ x. x || get_or s k false) (both_later k i))

pub double_with-same : (f g : ℕ → Bool) (is : List ℕ) → ((k : ℕ) → f k ≡ g k) → double_with f is ≡ double_with g is
double_with-same f g [] h = refl
double_with-same f g (i ∷ is) h =
    let later = double_with-same (λ k. (k == i) || f k) (λ k. (k == i) || g k) is (λ k. ap (λ b. (k == i) || b) (h k)) in
    ap (λ b. if b then Some i else double_with (λ k. (k == i) || f k) is) (h i) ∙ ap (λ o. if g i then Some i else o) later

pub count-marked : (s : List Bool) (i : ℕ) → i < length s → get_or s i false ≡ false → count_by (λ b. b) (set s i true) ≡ count_by (λ b. b) s + 1
count-marked [] i lt off = absurd (omega arith)
count-marked (b ∷ s) zero lt off =
    let bit : Bool → ℕ = λ b. cond b 1 0 in
    omega (arith, sum_by-cons bit b s, sum_by-cons bit true s, ap bit off)
count-marked (b ∷ s) (suc i) lt off =
    let later = count-marked s i (omega arith) off in
    omega (arith, sum_by-cons (λ (b : Bool). cond b 1 0) b s, sum_by-cons (λ (b : Bool). cond b 1 0) b (set s i true))

pub unknown_id-more : (n i : ℕ) (is : List ℕ) → unknown_id n (i ∷ is) ≡ None → (i < n) × (unknown_id n is ≡ None)
unknown_id-more n i is h = at (nat_lt i n) refl h
  where
    at : (b : Bool) → nat_lt i n ≡ b → cond (not b) (Some i) (unknown_id n is) ≡ None → (i < n) × (unknown_id n is ≡ None)
    at true e k = (grind (arith, nat_tests), k)
    at false e k = absurd (cc)

pub among-more : (x y a b : Bool) → (x || (y || a)) ≡ b → ((y || x) || a) ≡ b
among-more true true a b h = h
among-more true false a b h = h
among-more false true a b h = h
among-more false false a b h = h

pub known_next : (ids : List ℕ) (i p : ℕ) (pieces : ℕ) → drop i ids ≡ p ∷ drop (i + 1) ids → unknown_id pieces (drop i ids) ≡ None
    → (p < pieces) × (unknown_id pieces (drop (i + 1) ids) ≡ None)
known_next ids i p pieces is known = unknown_id-more pieces p (drop (i + 1) ids) (subst (λ l. unknown_id pieces l ≡ None) is known)

-- one more id that was not seen
pub record IsMarked (ids : List ℕ) (i p : ℕ) (seen : List Bool) (pieces : ℕ) : Type 0 where
  pub at : drop i ids ≡ p ∷ drop (i + 1) ids
  pub len : length seen ≡ pieces
  pub off : get_or seen p false ≡ false
  pub known : unknown_id pieces (drop i ids) ≡ None

pub marked_known : (ids : List ℕ) (i p : ℕ) (seen : List Bool) (pieces : ℕ) → IsMarked ids i p seen pieces → (p < pieces) × (unknown_id pieces (drop (i + 1) ids) ≡ None)
marked_known ids i p seen pieces h =
    unknown_id-more pieces p (drop (i + 1) ids) (subst (λ l. unknown_id pieces l ≡ None) h.at h.known)

pub marked_seen : (ids : List ℕ) (i p : ℕ) (seen : List Bool) (pieces : ℕ) → IsMarked ids i p seen pieces
    → ((k : ℕ) → (get_or seen k false || is_among k (drop i ids)) ≡ is_among k ids)
    → (k : ℕ) → (get_or (set seen p true) k false || is_among k (drop (i + 1) ids)) ≡ is_among k ids
marked_seen ids i p seen pieces h before k =
    let w = marked_known ids i p seen pieces h in
    let rest : List ℕ = drop (i + 1) ids in
    ap (λ b. b || is_among k rest) (marked-at seen p k (omega (arith, w.0, h.len)))
    ∙ among-more (get_or seen k false) (k == p) (is_among k rest) (is_among k ids) (subst (λ l. (get_or seen k false || is_among k l) ≡ is_among k ids) h.at (before k))

pub marked_double : (ids : List ℕ) (i p : ℕ) (seen : List Bool) (pieces : ℕ) (all : Option ℕ) → IsMarked ids i p seen pieces
    → all ≡ double_with (λ k. get_or seen k false) (drop i ids) → all ≡ double_with (λ k. get_or (set seen p true) k false) (drop (i + 1) ids)
marked_double ids i p seen pieces all h before =
    let w = marked_known ids i p seen pieces h in
    let rest : List ℕ = drop (i + 1) ids in
    before
    ∙ ap (λ l. double_with (λ k. get_or seen k false) l) h.at
    ∙ ap (λ b. if b then Some p else double_with (λ k. (k == p) || get_or seen k false) rest) h.off
    ∙ double_with-same (λ k. (k == p) || get_or seen k false) (λ k. get_or (set seen p true) k false) rest (λ k. sym (marked-at seen p k (omega (arith, w.0, h.len))))
