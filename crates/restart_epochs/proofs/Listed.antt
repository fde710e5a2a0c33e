-- The channels that have rows, as one of them gets its first row.
use Rattle.std.proofs.Common.{◌≡◌, ◌≢◌, ◌∙◌, sym, ap, refl, ℕ, zero, suc, ◌+◌, ◌<◌, ◌≤◌, Bool, true, false, cond, eqb, List, [], ◌∷◌, arith}
use Rattle.std.specs.declared.cmp.Ordering.TheVariants.{Less, Greater}
use Rattle.std.specs.Ordering.{match_ordering}
use Rattle.std.specs.List.{filter, range_with_len}
use Rattle.std.specs.BTreeSet.{insert_key}
use Rattle.std.specs.Ordering.{nat_cmp}
use Rattle.std.specs.Cmp.{nat_cmp_is}
use Rattle.std.proofs.lemmas.Bool.{eqb-true, eqb-false}

at_less : (x : ℕ) (k : ℕ) (a b c : List ℕ) → k < x → match_ordering (nat_cmp k x) a b c ≡ a
at_less x k a b c h = ap (λ o. match_ordering o a b c) (sym (nat_cmp_is k x Less h))

at_greater : (x : ℕ) (k : ℕ) (a b c : List ℕ) → x < k → match_ordering (nat_cmp k x) a b c ≡ c
at_greater x k a b c h = ap (λ o. match_ordering o a b c) (sym (nat_cmp_is k x Greater h))

front_at : (f : ℕ → Bool) (k b n : ℕ) → k < b → (v : Bool) → insert_key nat_cmp (filter f (range_with_len (b + 1) n)) k ≡ k ∷ filter f (range_with_len (b + 1) n)
    → insert_key nat_cmp (cond v (b ∷ filter f (range_with_len (b + 1) n)) (filter f (range_with_len (b + 1) n))) k ≡ k ∷ cond v (b ∷ filter f (range_with_len (b + 1) n)) (filter f (range_with_len (b + 1) n))
front_at f k b n h true more = at_less b k _ _ _ h
front_at f k b n h false more = more

-- a channel below all others comes first
insert_front : (f : ℕ → Bool) (k b n : ℕ) → k < b → insert_key nat_cmp (filter f (range_with_len b n)) k ≡ k ∷ filter f (range_with_len b n)
insert_front f k b zero h = refl
insert_front f k b (suc n) h = front_at f k b n h (f b) (insert_front f k (b + 1) n (omega (arith, h)))

same_above : (f g : ℕ → Bool) (k b n : ℕ) → k < b → ((j : ℕ) → j ≢ k → g j ≡ f j) → filter g (range_with_len b n) ≡ filter f (range_with_len b n)
same_above f g k b zero lt h = refl
same_above f g k b (suc n) lt h =
    ap (λ v. cond v (b ∷ filter g (range_with_len (b + 1) n)) (filter g (range_with_len (b + 1) n))) (h b (λ e. omega (arith, e, lt)))
    ∙ ap (λ l. cond (f b) (b ∷ l) l) (same_above f g k (b + 1) n (omega arith) h)

below_at : (f g : ℕ → Bool) (k a n : ℕ) → a < k → (v : Bool) → filter g (range_with_len (a + 1) n) ≡ insert_key nat_cmp (filter f (range_with_len (a + 1) n)) k
    → cond v (a ∷ filter g (range_with_len (a + 1) n)) (filter g (range_with_len (a + 1) n)) ≡ insert_key nat_cmp (cond v (a ∷ filter f (range_with_len (a + 1) n)) (filter f (range_with_len (a + 1) n))) k
below_at f g k a n lt true more = ap (λ l. a ∷ l) more ∙ sym (at_greater a k _ _ _ lt)
below_at f g k a n lt false more = more

here_at : (f g : ℕ → Bool) (k a n : ℕ) → a ≤ k → f k ≡ false → g k ≡ true → ((j : ℕ) → j ≢ k → g j ≡ f j) → (b : Bool) → eqb a k ≡ b
    → (a < k → filter g (range_with_len (a + 1) n) ≡ insert_key nat_cmp (filter f (range_with_len (a + 1) n)) k)
    → filter g (range_with_len a (suc n)) ≡ insert_key nat_cmp (filter f (range_with_len a (suc n))) k
here_at f g k a n lo was is h true e more =
    let same = eqb-true a k e in
    ap (λ v. cond v (a ∷ filter g (range_with_len (a + 1) n)) (filter g (range_with_len (a + 1) n))) (ap g same ∙ is)
    ∙ ap (λ l. a ∷ l) (same_above f g k (a + 1) n (omega (arith, same)) h)
    ∙ ap (λ j. j ∷ filter f (range_with_len (a + 1) n)) same
    ∙ sym (ap (λ v. insert_key nat_cmp (cond v (a ∷ filter f (range_with_len (a + 1) n)) (filter f (range_with_len (a + 1) n))) k) (ap f same ∙ was) ∙ insert_front f k (a + 1) n (omega (arith, same)))
here_at f g k a n lo was is h false e more =
    let ne = eqb-false a k e in
    let lt : a < k = omega (arith, lo, ne) in
    ap (λ v. cond v (a ∷ filter g (range_with_len (a + 1) n)) (filter g (range_with_len (a + 1) n))) (h a ne) ∙ below_at f g k a n lt (f a) (more lt)

pub insert_listed : (f g : ℕ → Bool) (k a n : ℕ) → a ≤ k → k < a + n → f k ≡ false → g k ≡ true → ((j : ℕ) → j ≢ k → g j ≡ f j)
    → filter g (range_with_len a n) ≡ insert_key nat_cmp (filter f (range_with_len a n)) k
insert_listed f g k a zero lo hi was is h = absurd (omega (arith, lo, hi))
insert_listed f g k a (suc n) lo hi was is h =
    here_at f g k a n lo was is h (eqb a k) refl (λ lt. insert_listed f g k (a + 1) n (omega (arith, lt)) (omega (arith, hi)) was is h)

pub none_listed : (f : ℕ → Bool) (ks : List ℕ) → ((k : ℕ) → f k ≡ false) → filter f ks ≡ []
none_listed f [] h = refl
none_listed f (k ∷ ks) h = ap (λ v. cond v (k ∷ filter f ks) (filter f ks)) (h k) ∙ none_listed f ks h
