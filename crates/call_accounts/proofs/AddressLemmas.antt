-- Addresses by their bytes, each put once into an ordered list.
use Rattle.std.proofs.Common.{◌≡◌, ◌≢◌, ℕ, ◌<◌, ◌==◌, ◌&&◌, ◌||◌, nat_lt, Bool, true, false, List, [], ◌∷◌, refl, sym, ap, ◌∙◌, subst, arith}
use Rattle.std.specs.List.{AllByRecursion}
use Rattle.std.specs.Cmp.Lexicographic.{slice_cmp, lists_total}
use Rattle.std.specs.Cmp.{nat_cmp_total, ranks, IsTotalOrder, tied_itself}
use Rattle.std.specs.declared.cmp.Ordering.{Ordering}
use Rattle.std.proofs.Common.{Less, Equal, Greater}
use Rattle.std.specs.Ordering.{MatchOrdering, nat_cmp, ordering_then, ordering_reverse}
use Rattle.std.proofs.lemmas.Bool.{eq-eqb, le-ltb, lt-ltb, ne_eqb}
use Rattle.std.proofs.lemmas.Map.Lookups.{exact_bytes}
use Rattle.line_model.specs.basics.Records.{CallRecord}
use Rattle.line_model.specs.observer.Accounts.{payer, payers, with_address, is_same_address, is_before}

abbrev pub order : List ℕ → List ℕ → Ordering
order a b = slice_cmp nat_cmp a b

pub order_total : IsTotalOrder order
order_total = lists_total nat_cmp_total

-- what the two tests return, by the order
abbrev Tests : Ordering → (same before : Bool) → Type 0
Tests o same before = MatchOrdering o ((same ≡ false) × (before ≡ true)) (same ≡ true) ((same ≡ false) × (before ≡ false))

tests_cons : (o p : Ordering) (same before : Bool) (x y : ℕ) → MatchOrdering o (x < y) (x ≡ y) (y < x) → Tests p same before → Tests (ordering_then o p) ((x == y) && same) (nat_lt x y || ((x == y) && before))
tests_cons Less p same before x y h t =
    let less : x < y = h in
    let apart : (x == y) ≡ false = ne_eqb x y (λ e. omega arith) in
    let lower : nat_lt x y ≡ true = lt-ltb x y less in
    (ap (λ b. b && same) apart, ap (λ b. b || ((x == y) && before)) lower)
tests_cons Equal p same before x y h t =
    let alike : x ≡ y = h in
    let e : (x == y) ≡ true = eq-eqb x y alike in
    let lower : nat_lt x y ≡ false = le-ltb x y (omega arith) in
    let f : (nat_lt x y || ((x == y) && before)) ≡ before = ap (λ b. b || ((x == y) && before)) lower ∙ ap (λ b. b && before) e in
    subst (λ s. Tests p s (nat_lt x y || ((x == y) && before))) (sym (ap (λ b. b && same) e)) (subst (λ b. Tests p same b) (sym f) t)
tests_cons Greater p same before x y h t =
    let more : y < x = h in
    let apart : (x == y) ≡ false = ne_eqb x y (λ e. omega arith) in
    let lower : nat_lt x y ≡ false = le-ltb x y (omega arith) in
    (ap (λ b. b && same) apart, ap (λ b. b || ((x == y) && before)) lower ∙ ap (λ b. b && before) apart)

tests : (a b : List ℕ) → Tests (order a b) (is_same_address a b) (is_before a b)
tests [] [] = refl
tests [] (y ∷ ys) = (refl, refl)
tests (x ∷ xs) [] = (refl, refl)
tests (x ∷ xs) (y ∷ ys) = tests_cons (nat_cmp x y) (order xs ys) (is_same_address xs ys) (is_before xs ys) x y (ranks x y) (tests xs ys)

-- what the two tests choose
abbrev chosen : (same before : Bool) → (a b : List ℕ) → (bs : List (List ℕ)) → List (List ℕ)
chosen same before a b bs = elim same [
  | true ↦ b ∷ bs
  | false ↦ elim before [ true ↦ a ∷ b ∷ bs | false ↦ b ∷ with_address a bs ]
]

with-same : (a b : List ℕ) (bs : List (List ℕ)) → is_same_address a b ≡ true → with_address a (b ∷ bs) ≡ b ∷ bs
with-same a b bs e = ap (λ s. chosen s (is_before a b) a b bs) e

with-before : (a b : List ℕ) (bs : List (List ℕ)) → is_same_address a b ≡ false → is_before a b ≡ true → with_address a (b ∷ bs) ≡ a ∷ b ∷ bs
with-before a b bs e f = ap (λ s. chosen s (is_before a b) a b bs) e ∙ ap (λ p. chosen false p a b bs) f

with-after : (a b : List ℕ) (bs : List (List ℕ)) → is_same_address a b ≡ false → is_before a b ≡ false → with_address a (b ∷ bs) ≡ b ∷ with_address a bs
with-after a b bs e f = ap (λ s. chosen s (is_before a b) a b bs) e ∙ ap (λ p. chosen false p a b bs) f

-- ---- same addresses

pub is_same-refl : (a : List ℕ) → is_same_address a a ≡ true
is_same-refl a = at (order a a) refl (tests a a)
  where
    at : (o : Ordering) → order a a ≡ o → Tests o (is_same_address a a) (is_before a a) → is_same_address a a ≡ true
    at Less e t = absurd (let back : Less ≡ Greater = sym e ∙ order_total.antisymm a a ∙ ap ordering_reverse e in cc)
    at Equal e t = t
    at Greater e t = absurd (let back : Greater ≡ Less = sym e ∙ order_total.antisymm a a ∙ ap ordering_reverse e in cc)

pub apart_from-less : (a b : List ℕ) → order a b ≡ Less → a ≢ b
apart_from-less a b e same =
    let t : Tests Less (is_same_address a b) (is_before a b) = subst (λ o. Tests o (is_same_address a b) (is_before a b)) e (tests a b) in
    let itself : is_same_address a b ≡ true = subst (λ x. is_same_address a x ≡ true) same (is_same-refl a) in
    absurd (let h = t.0 in cc)

eq_from-same : (a b : List ℕ) → is_same_address a b ≡ true → a ≡ b
eq_from-same a b h = at (order a b) refl (tests a b)
  where
    at : (o : Ordering) → order a b ≡ o → Tests o (is_same_address a b) (is_before a b) → a ≡ b
    at Less e t = absurd (let g = t.0 in cc)
    at Equal e t = exact_bytes a b e
    at Greater e t = absurd (let g = t.0 in cc)

pub same_from-apart : (a b : List ℕ) → a ≢ b → is_same_address a b ≡ false
same_from-apart a b h = at (is_same_address a b) refl
  where
    at : (s : Bool) → is_same_address a b ≡ s → is_same_address a b ≡ false
    at true e = absurd (h (eq_from-same a b e))
    at false e = e

pub less_from-greater : (a b : List ℕ) → order a b ≡ Greater → order b a ≡ Less
less_from-greater a b e = order_total.antisymm b a ∙ ap ordering_reverse e

pub equal_from-same : (a b : List ℕ) → a ≡ b → order a b ≡ Equal
equal_from-same a b same = subst (λ x. order a x ≡ Equal) same (tied_itself order_total a)

pub greater_from-less : (a b : List ℕ) → order a b ≡ Less → order b a ≡ Greater
greater_from-less a b h = order_total.antisymm b a ∙ ap ordering_reverse h

-- ---- addresses in order

abbrev pub Ascends : List (List ℕ) → Type 0
Ascends [] = Unit {0}
Ascends (b ∷ bs) = AllByRecursion (λ x. order b x ≡ Less) bs × Ascends bs

pub all_below : (a b : List ℕ) (bs : List (List ℕ)) → order a b ≡ Less → AllByRecursion (λ x. order b x ≡ Less) bs → AllByRecursion (λ x. order a x ≡ Less) bs
all_below a b [] e h = tt
all_below a b (x ∷ bs) e h = (order_total.trans a b x e h.0, all_below a b bs e h.1)

-- what an address is put before, beside and after
abbrev pub Placed : List ℕ → List ℕ → List (List ℕ) → Ordering → Type 0
Placed a b bs o = MatchOrdering o (with_address a (b ∷ bs) ≡ a ∷ b ∷ bs) ((with_address a (b ∷ bs) ≡ b ∷ bs) × (a ≡ b)) (with_address a (b ∷ bs) ≡ b ∷ with_address a bs)

pub placed : (a b : List ℕ) (bs : List (List ℕ)) → Placed a b bs (order a b)
placed a b bs = at (order a b) (tests a b)
  where
    at : (o : Ordering) → Tests o (is_same_address a b) (is_before a b) → Placed a b bs o
    at Less t = with-before a b bs t.0 t.1
    at Equal t = (with-same a b bs t, eq_from-same a b t)
    at Greater t = with-after a b bs t.0 t.1

all_with : (P : List ℕ → Type 0) (a : List ℕ) (bs : List (List ℕ)) → P a → AllByRecursion P bs → AllByRecursion P (with_address a bs)
all_with P a [] p h = (p, tt)
all_with P a (b ∷ bs) p h = at (order a b) (placed a b bs) (all_with P a bs p h.1)
  where
    at : (o : Ordering) → Placed a b bs o → AllByRecursion P (with_address a bs) → AllByRecursion P (with_address a (b ∷ bs))
    at Less e later = subst (AllByRecursion P) (sym e) (p, h)
    at Equal e later = subst (AllByRecursion P) (sym e.0) h
    at Greater e later = subst (AllByRecursion P) (sym e) (h.0, later)

ascends_with : (a : List ℕ) (bs : List (List ℕ)) → Ascends bs → Ascends (with_address a bs)
ascends_with a [] h = (tt, tt)
ascends_with a (b ∷ bs) h = at (order a b) refl (placed a b bs) (ascends_with a bs h.1)
  where
    at : (o : Ordering) → order a b ≡ o → Placed a b bs o → Ascends (with_address a bs) → Ascends (with_address a (b ∷ bs))
    at Less less e later = subst Ascends (sym e) ((less, all_below a b bs less h.0), h)
    at Equal same e later = subst Ascends (sym e.0) h
    at Greater greater e later =
        subst Ascends (sym e) (all_with (λ x. order b x ≡ Less) a bs (less_from-greater a b greater) h.0, later)

pub ascends : (cs : List CallRecord) → Ascends (payers cs)
ascends [] = tt
ascends (c ∷ cs) = ascends_with (payer c) (payers cs) (ascends cs)

pub all_apart : (a : List ℕ) (bs : List (List ℕ)) → AllByRecursion (λ x. order a x ≡ Less) bs → AllByRecursion (λ b. a ≢ b) bs
all_apart a [] h = tt
all_apart a (b ∷ bs) h = (apart_from-less a b h.0, all_apart a bs h.1)

pub all_from_with : (P : List ℕ → Type 0) (a : List ℕ) (bs : List (List ℕ)) → AllByRecursion P (with_address a bs) → P a × AllByRecursion P bs
all_from_with P a [] h = (h.0, tt)
all_from_with P a (b ∷ bs) h = at (order a b) (placed a b bs) (all_from_with P a bs)
  where
    at : (o : Ordering) → Placed a b bs o → (AllByRecursion P (with_address a bs) → P a × AllByRecursion P bs) → P a × AllByRecursion P (b ∷ bs)
    at Less e later = let k : AllByRecursion P (a ∷ b ∷ bs) = subst (AllByRecursion P) e h in (k.0, k.1)
    at Equal e later = let k : AllByRecursion P (b ∷ bs) = subst (AllByRecursion P) e.0 h in (subst P (sym e.1) k.0, k)
    at Greater e later = let k : AllByRecursion P (b ∷ with_address a bs) = subst (AllByRecursion P) e h in let w = later k.1 in (w.0, (k.0, w.1))
