-- The search for the count that a P(R) acknowledges, by residues.
use Rattle.std.proofs.Common.{◌≡◌, ◌⊎◌, ◌<◌, ◌≤◌, ◌-◌, ◌%◌, ◌+◌, ℕ, zero, suc, Bool, true, false, cond, ◌==◌, refl, sym, ap, subst, ◌∙◌, List, ◌∷◌, arith, Some, None, eq-eqb}
use Rattle.std.proofs.lemmas.Bool.{leb-true, leb-false, ne_eqb}
use Rattle.std.specs.Prelude.{find, nat_le}
use Rattle.std.specs.List.{range_with_len}
use Rattle.line_model.specs.channels.FlowControl.{count_acknowledged}
use Rattle.data_transfer.specs.FlowResidues.{Residues, IsAcknowledged}

-- where the residue of a count is one below the modulus
pub residue_hit : (m a n : ℕ) → (m ≡ 8) ⊎ (m ≡ 128) → n < m → (a + (n + (m - a % m)) % m) % m ≡ n
residue_hit m a n h b = grind (arith, h, b)

-- it is none of those before it
pub residue_miss : (m a n j : ℕ) → (m ≡ 8) ⊎ (m ≡ 128) → n < m → j < (n + (m - a % m)) % m → ((a + j) % m == n) ≡ false
residue_miss m a n j h b l = ne_eqb ((a + j) % m) n (λ e. grind (arith, h, b, l, e))

-- the first of a list passes, or does not
found : (p : ℕ → Bool) (n : ℕ) (ns : List ℕ) → p n ≡ true → find p (n ∷ ns) ≡ Some n
found p n ns h = ap (λ b. cond b (Some n) (find p ns)) h

passed : (p : ℕ → Bool) (n : ℕ) (ns : List ℕ) → p n ≡ false → find p (n ∷ ns) ≡ find p ns
passed p n ns h = ap (λ b. cond b (Some n) (find p ns)) h

next : (a j : ℕ) → a + suc j ≡ a + 1 + j
next a j = omega arith

-- the first of some numbers that passes
pub find-range : (p : ℕ → Bool) (a c d : ℕ) → d < c → p (a + d) ≡ true → ((j : ℕ) → j < d → p (a + j) ≡ false) →
    find p (range_with_len a c) ≡ Some (a + d)
find-range p a zero d l hit miss = absurd (omega arith)
find-range p a (suc c) zero l hit miss =
    let here : a + 0 ≡ a = omega arith in
    let now : p a ≡ true = subst (λ n. p n ≡ true) here hit in
    found p a (range_with_len (a + 1) c) now ∙ ap Some (sym here)
find-range p a (suc c) (suc d) l hit miss =
    let here : p (a + 0) ≡ false = miss 0 (omega arith) in
    let there : find p (range_with_len (a + 1) c) ≡ Some (a + 1 + d) =
    find-range p (a + 1) c d (omega (arith, l)) (subst (λ n. p n ≡ true) (next a d) hit)
    (λ j lt. subst (λ n. p n ≡ false) (next a j) (miss (suc j) (omega (arith, lt)))) in
    passed p a (range_with_len (a + 1) c) (subst (λ n. p n ≡ false) (omega arith) here) ∙ there ∙ ap Some (sym (next a d))

-- where none passes there is none
pub find-range-none : (p : ℕ → Bool) (a c : ℕ) → ((j : ℕ) → j < c → p (a + j) ≡ false) → find p (range_with_len a c) ≡ None
find-range-none p a zero miss = refl
find-range-none p a (suc c) miss =
    let here : p (a + 0) ≡ false = miss 0 (omega arith) in
    let there : find p (range_with_len (a + 1) c) ≡ None =
    find-range-none p (a + 1) c (λ j lt. subst (λ n. p n ≡ false) (next a j) (miss (suc j) (omega (arith, lt)))) in
    passed p a (range_with_len (a + 1) c) (subst (λ n. p n ≡ false) (omega arith) here) ∙ there

-- how many are outstanding, by residues
pub outstanding_by_residue : (m s a sent acknowledged : ℕ) → (m ≡ 8) ⊎ (m ≡ 128) → Residues m s a sent acknowledged →
    (sent + (m - acknowledged)) % m ≡ s - a
outstanding_by_residue m s a sent acknowledged h r =
    grind (arith, h, r.sent_is, r.acknowledged_is, r.ordered, r.below)

-- a residue that is near enough is acknowledged
pub acknowledged-some : (m s a n : ℕ) → (m ≡ 8) ⊎ (m ≡ 128) → n < m → a ≤ s → (n + (m - a % m)) % m ≤ s - a →
    count_acknowledged m s a n ≡ Some (a + (n + (m - a % m)) % m)
acknowledged-some m s a n h b o l =
    find-range (λ k. k % m == n) a (s + 1 - a) ((n + (m - a % m)) % m)
    (omega (arith, o, l)) (eq-eqb _ _ (residue_hit m a n h b)) (λ j lt. residue_miss m a n j h b lt)

-- any other is not
pub acknowledged-none : (m s a n : ℕ) → (m ≡ 8) ⊎ (m ≡ 128) → n < m → a ≤ s → s - a < (n + (m - a % m)) % m →
    count_acknowledged m s a n ≡ None
acknowledged-none m s a n h b o l =
    find-range-none (λ k. k % m == n) a (s + 1 - a) (λ j lt. residue_miss m a n j h b (omega (arith, o, l, lt)))

-- a number that is no residue is never acknowledged
pub acknowledged-none_above : (m s a n : ℕ) → (m ≡ 8) ⊎ (m ≡ 128) → m ≤ n → count_acknowledged m s a n ≡ None
acknowledged-none_above m s a n h b =
    find-range-none (λ k. k % m == n) a (s + 1 - a) (λ j lt. ne_eqb ((a + j) % m) n (λ e. grind (arith, h, b, e)))

-- the test by residues says what the search finds
pub acknowledged_by_test : (m s a n : ℕ) → (m ≡ 8) ⊎ (m ≡ 128) → n < m → a ≤ s →
    (t : Bool) → nat_le ((n + (m - a % m)) % m) (s - a) ≡ t → IsAcknowledged t m s a n
acknowledged_by_test m s a n h b o true e =
    let l : (n + (m - a % m)) % m ≤ s - a = leb-true _ _ e in
    (a + (n + (m - a % m)) % m, acknowledged-some m s a n h b o l, residue_hit m a n h b, omega arith, omega (arith, o, l))
acknowledged_by_test m s a n h b o false e = acknowledged-none m s a n h b o (leb-false _ _ e)
