-- Posts that are values of a plan's pieces, no id twice and as many as the plan has: they are the plan's values in another order.
use Rattle.std.proofs.Common.{◌≡◌, ◌≢◌, ℕ, zero, suc, ◌+◌, ◌-◌, ◌<◌, ◌≤◌, List, [], ◌∷◌, ◌++◌, length, map, refl, sym, ap, ◌∙◌, subst, arith, Some, eqb, eq-eqb, ne_eqb}
use Rattle.std.specs.Prelude.{All, slice_get}
use Rattle.std.specs.List.{AllByRecursion}
use Rattle.std.specs.List.Sorted.{IsPermutation}
use Rattle.std.proofs.lemmas.List.Sorted.{IsPermutation-refl, IsPermutation-cons, IsPermutation-sym, IsPermutation-trans, IsPermutation-middle}
use Rattle.std.proofs.lemmas.List.{length-map}
use native.Mathlib.Decide.{ℕ_discrete}
use mathlib.Core.Logic.{dite}
use Rattle.line_model.specs.basics.Records.{Piece, PieceReport}
use Rattle.line_model.specs.pieces.Plans.{result_of}
use Rattle.line_model.specs.work.Book.{times, ids_of, AreOf}
use Rattle.line_model.proofs.Counting.{bit, times-cons, times-append, each_once}
use Rattle.line_model.proofs.Schedules.{ids-append}

-- the report is among the values, which are numbered from n on
abbrev OccursFrom : ℕ → List PieceReport → PieceReport → Type 0
OccursFrom n vs r = (n ≤ r.id) × (slice_get vs (r.id - n) ≡ Some r)

all_from_index : (P : PieceReport → Type 0) (rs : List PieceReport) → All P rs → AllByRecursion P rs
all_from_index P [] h = tt
all_from_index P (r ∷ rs) h = (h 0 r (omega arith), all_from_index P rs (λ k d lt. h (suc k) d (omega arith)))

all_map : (P Q : PieceReport → Type 0) (rs : List PieceReport) → ((r : PieceReport) → P r → Q r) → AllByRecursion P rs → AllByRecursion Q rs
all_map P Q [] f h = tt
all_map P Q (r ∷ rs) f h = (f r h.0, all_map P Q rs f h.1)

-- where a number occurs among the ids
found : (x : ℕ) (rs : List PieceReport) → 0 < times x (ids_of rs) → (front : List PieceReport) × (r : PieceReport) × (back : List PieceReport) × (rs ≡ front ++ r ∷ back) × (r.id ≡ x)
found x [] some = absurd (omega arith)
found x (r ∷ rs) some = dite (ℕ_discrete r.id x)
    (λ e. ([], r, rs, refl, e))
    (λ ne.
    let other : r.id ≢ x = ne in
    let none : bit (eqb r.id x) ≡ 0 = ap bit (ne_eqb r.id x other) in
    let w = found x rs (omega (arith, times-cons x r.id (ids_of rs), none)) in
    (r ∷ w.0, w.1, w.2, ap (λ l. r ∷ l) w.3, w.4))

-- how often a number occurs where one report is taken out
times-out : (x : ℕ) (front : List PieceReport) (r : PieceReport) (back : List PieceReport) → times x (ids_of (front ++ r ∷ back)) ≡ bit (eqb r.id x) + times x (ids_of (front ++ back))
times-out x front r back =
    omega (
      arith,
      ap (times x) (ids-append front (r ∷ back)),
      ap (times x) (ids-append front back),
      times-append x (ids_of front) (r.id ∷ ids_of back),
      times-append x (ids_of front) (ids_of back),
      times-cons x r.id (ids_of back),
    )

all_out : (P : PieceReport → Type 0) (front : List PieceReport) (r : PieceReport) (back : List PieceReport) → AllByRecursion P (front ++ r ∷ back) → P r × AllByRecursion P (front ++ back)
all_out P [] r back h = h
all_out P (p ∷ front) r back h = let w = all_out P front r back h.1 in (w.0, (h.0, w.1))

-- the reports whose ids are not n come later
further : (n : ℕ) (v : PieceReport) (vs rs : List PieceReport) → times n (ids_of rs) ≡ 0 → AllByRecursion (OccursFrom n (v ∷ vs)) rs → AllByRecursion (OccursFrom (n + 1) vs) rs
further n v vs [] none h = tt
further n v vs (r ∷ rs) none h =
    let other : r.id ≢ n = λ e. let here : bit (eqb r.id n) ≡ 1 = ap bit (eq-eqb r.id n e) in omega (arith, none, times-cons n r.id (ids_of rs), here) in
    let above : n + 1 ≤ r.id = omega (arith, h.0.0, other) in
    let place : r.id - n ≡ suc (r.id - (n + 1)) = omega (arith, above) in
    let at : slice_get (v ∷ vs) (suc (r.id - (n + 1))) ≡ Some r = subst (λ k. slice_get (v ∷ vs) k ≡ Some r) place h.0.1 in
    ((above, at), further n v vs rs (omega (arith, none, times-cons n r.id (ids_of rs))) h.1)

same_head : (v r : PieceReport) → Some v ≡ Some r → v ≡ r
same_head v r e = cc

nothing_at : (k : ℕ) (r : PieceReport) → slice_get [] k ≡ Some r → ⊥
nothing_at k r e = absurd (cc)

permuted_from : (n : ℕ) (vs rs : List PieceReport) → AllByRecursion (OccursFrom n vs) rs → ((x : ℕ) → n ≤ x → x < n + length vs → times x (ids_of rs) ≡ 1) → IsPermutation vs rs
permuted_from n [] [] h once = IsPermutation-refl []
permuted_from n [] (r ∷ rs) h once = absurd (nothing_at (r.id - n) r h.0.1)
permuted_from n (v ∷ vs) rs h once =
    let w = found n rs (omega (arith, once n (omega arith) (omega arith))) in
    let front = w.0 in
    let r = w.1 in
    let back = w.2 in
    let represented : AllByRecursion (OccursFrom n (v ∷ vs)) (front ++ r ∷ back) = subst (λ l. AllByRecursion (OccursFrom n (v ∷ vs)) l) w.3 h in
    let count : (x : ℕ) → times x (ids_of rs) ≡ bit (eqb r.id x) + times x (ids_of (front ++ back)) = λ x. ap (λ l. times x (ids_of l)) w.3 ∙ times-out x front r back in
    let o = all_out (OccursFrom n (v ∷ vs)) front r back represented in
    let first : r.id - n ≡ 0 = omega (arith, w.4) in
    let same : v ≡ r = same_head v r (subst (λ k. slice_get (v ∷ vs) k ≡ Some r) first o.0.1) in
    let here : bit (eqb r.id n) ≡ 1 = ap bit (eq-eqb r.id n w.4) in
    let none : times n (ids_of (front ++ back)) ≡ 0 = omega (arith, count n, once n (omega arith) (omega arith), here) in
    let later : IsPermutation vs (front ++ back) = permuted_from (n + 1) vs (front ++ back) (further n v vs (front ++ back) none o.1) (λ x ge lt.
    let other : r.id ≢ x = omega (arith, w.4, ge) in
    let off : bit (eqb r.id x) ≡ 0 = ap bit (ne_eqb r.id x other) in
    omega (arith, count x, off, once x (omega arith) (omega arith))) in
    subst (λ l. IsPermutation (v ∷ vs) l) (ap (λ u. front ++ u ∷ back) same ∙ sym w.3)
    (IsPermutation-trans (v ∷ vs) (v ∷ (front ++ back)) (front ++ v ∷ back)
    (IsPermutation-cons v vs (front ++ back) later)
    (IsPermutation-sym (front ++ v ∷ back) (v ∷ (front ++ back)) (IsPermutation-middle front v back)))

within : (xs : List PieceReport) (k : ℕ) (x : PieceReport) → slice_get xs k ≡ Some x → k < length xs
within [] k x e = absurd (nothing_at k x e)
within (y ∷ xs) zero x e = omega arith
within (y ∷ xs) (suc k) x e = let later = within xs k x e in omega arith

ids_within : (vs rs : List PieceReport) → AllByRecursion (OccursFrom 0 vs) rs → (x : ℕ) → 0 < times x (ids_of rs) → x < length vs
ids_within vs [] h x some = absurd (omega arith)
ids_within vs (r ∷ rs) h x some = dite (ℕ_discrete r.id x)
    (λ e. let same : r.id ≡ x = e in omega (arith, within vs (r.id - 0) r h.0.1))
    (λ ne.
    let other : r.id ≢ x = ne in
    let none : bit (eqb r.id x) ≡ 0 = ap bit (ne_eqb r.id x other) in
    ids_within vs rs h.1 x (omega (arith, times-cons x r.id (ids_of rs), none)))

pub permuted_posts : (ps : List Piece) (rs : List PieceReport) → AreOf (Some ps) rs → length rs ≡ length ps → IsPermutation (map result_of ps) rs
permuted_posts ps rs are len =
    let vs = map result_of ps in
    let represented : AllByRecursion (OccursFrom 0 vs) rs = all_map (λ r. slice_get vs r.id ≡ Some r) (OccursFrom 0 vs) rs
    (λ r h. let e : r.id ≡ r.id - 0 = omega arith in (omega arith, subst (λ k. slice_get vs k ≡ Some r) e h))
    (all_from_index (λ r. slice_get vs r.id ≡ Some r) rs are.values) in
    let n : length (ids_of rs) ≡ length vs = length-map rs (λ (r : PieceReport). r.id) ∙ len ∙ sym (length-map ps result_of) in
    let once = each_once (ids_of rs) (length vs) are.distinct (ids_within vs rs represented) n in
    permuted_from 0 vs rs represented (λ x ge lt. once x (omega (arith, lt)))
