-- What the marks of the ids say of how often each id occurs.
use Rattle.std.proofs.Common.{◌≡◌, ◌≢◌, ℕ, ◌<◌, ◌==◌, ◌||◌, Bool, true, false, List, [], ◌∷◌, ◌++◌, refl, sym, ap, ◌∙◌, subst, arith, Some, None, MatchOption, eqb, eq-eqb, ne_eqb, if◌then◌else◌, append_assoc}
use Rattle.std.proofs.lemmas.List.{append-nil}
use native.Mathlib.Decide.{ℕ_discrete}
use mathlib.Core.Logic.{dite}
use Rattle.line_model.specs.declared.fault.Fault.{Fault}
use Rattle.line_model.specs.declared.fault.Fault.TheVariants.{Memory, Trace, Read, Write, Start, Double, UnknownPiece, Missing}
use Rattle.line_model.specs.work.Book.{times}
use Rattle.line_model.proofs.Counting.{bit, times-cons, times-append}
use Rattle.report_merge.specs.Seen.{is_among, double_with, double, IsRefused}
use Rattle.report_merge.specs.Refusal.{unknown_id, IsDistinct, IsFirstDouble, IsRefusal, IsWhole}

pub some_times : (x : ℕ) (ids : List ℕ) → is_among x ids ≡ true → 0 < times x ids
some_times x [] h = absurd (true_is_not_false (sym h))
  where
    true_is_not_false : true ≡ false → ⊥
    true_is_not_false e = absurd (cc)
some_times x (i ∷ ids) h = dite (ℕ_discrete i x)
    (λ e. let one : bit (eqb i x) ≡ 1 = ap bit (eq-eqb i x e) in omega (arith, times-cons x i ids, one))
    (λ ne.
    let other : i ≢ x = ne in
    let test : eqb x i ≡ false = ne_eqb x i (λ e. other (sym e)) in
    omega (arith, times-cons x i ids, some_times x ids (sym (ap (λ b. b || is_among x ids) test) ∙ h)))

pub no_times : (x : ℕ) (ids : List ℕ) → is_among x ids ≡ false → times x ids ≡ 0
no_times x [] h = refl
no_times x (i ∷ ids) h = dite (ℕ_discrete i x)
    (λ e. let same : i ≡ x = e in absurd (clash (sym (ap (λ b. b || is_among x ids) (eq-eqb x i (sym same))) ∙ h)))
    (λ ne.
    let other : i ≢ x = ne in
    let test : eqb x i ≡ false = ne_eqb x i (λ e. other (sym e)) in
    let none : bit (eqb i x) ≡ 0 = ap bit (ne_eqb i x other) in
    omega (arith, times-cons x i ids, none, no_times x ids (sym (ap (λ b. b || is_among x ids) test) ∙ h)))
  where
    clash : true ≡ false → ⊥
    clash e = absurd (cc)

among-behind : (k i : ℕ) (front : List ℕ) → is_among k (front ++ i ∷ []) ≡ (k == i || is_among k front)
among-behind k i [] = refl
among-behind k i (j ∷ front) = ap (λ b. k == j || b) (among-behind k i front) ∙ swapped (k == j) (k == i) (is_among k front)
  where
    swapped : (a b c : Bool) → (a || (b || c)) ≡ (b || (a || c))
    swapped true true c = refl
    swapped true false c = refl
    swapped false true c = refl
    swapped false false c = refl

one_more : (i : ℕ) (front : List ℕ) → IsDistinct front → times i front ≡ 0 → IsDistinct (front ++ i ∷ [])
one_more i front h none x = dite (ℕ_discrete i x)
    (λ e.
    let same : i ≡ x = e in
    let none_of : times x front ≡ 0 = subst (λ k. times k front ≡ 0) same none in
    let one : bit (eqb i x) ≡ 1 = ap bit (eq-eqb i x e) in
    omega (arith, times-append x front (i ∷ []), times-cons x i [], one, none_of))
    (λ ne.
    let off : bit (eqb i x) ≡ 0 = ap bit (ne_eqb i x ne) in
    omega (arith, times-append x front (i ∷ []), times-cons x i [], off, h x))

-- the marks of what is in front find the first id that comes before it
doubles : (front ids : List ℕ) (seen : ℕ → Bool) → ((k : ℕ) → seen k ≡ is_among k front) → IsDistinct front
    → MatchOption (double_with seen ids) (IsDistinct (front ++ ids)) (λ i. IsFirstDouble i (front ++ ids))
doubles front [] seen same h = subst IsDistinct (sym (append-nil front)) h
doubles front (i ∷ ids) seen same h = at (seen i) refl (λ none. doubles (front ++ i ∷ []) ids (λ k. k == i || seen k) (λ k. ap (λ b. k == i || b) (same k) ∙ sym (among-behind k i front)) (one_more i front h none))
  where
    at : (b : Bool) → seen i ≡ b
        → (times i front ≡ 0 → MatchOption (double_with (λ k. k == i || seen k) ids) (IsDistinct ((front ++ i ∷ []) ++ ids)) (λ j. IsFirstDouble j ((front ++ i ∷ []) ++ ids)))
        → MatchOption (if b then Some i else double_with (λ k. k == i || seen k) ids) (IsDistinct (front ++ i ∷ ids)) (λ j. IsFirstDouble j (front ++ i ∷ ids))
    at true e later = record { front = front; back = ids; place = refl; before = some_times i front (sym (same i) ∙ e); first = h }
    at false e later =
        subst (λ l. MatchOption (double_with (λ k. k == i || seen k) ids) (IsDistinct l) (λ j. IsFirstDouble j l)) (append_assoc front (i ∷ []) ids)
        (later (no_times i front (sym (same i) ∙ e)))

pub double_is : (ids : List ℕ) → MatchOption (double ids) (IsDistinct ids) (λ i. IsFirstDouble i ids)
double_is ids = doubles [] ids (λ k. false) (λ k. refl) (λ x. omega arith)

pub distinct_from : (ids : List ℕ) → double ids ≡ None → IsDistinct ids
distinct_from ids e = subst (λ o. MatchOption o (IsDistinct ids) (λ i. IsFirstDouble i ids)) e (double_is ids)

pub refused_from : (f : Fault) (n : ℕ) (ids : List ℕ) → unknown_id n ids ≡ None → IsRefused f (double ids) → IsRefusal f n ids
refused_from Memory n ids known h = known
refused_from (Double i) n ids known h = (known, subst (λ o. MatchOption o (IsDistinct ids) (λ i. IsFirstDouble i ids)) h (double_is ids))
refused_from (UnknownPiece i) n ids known h = absurd h
refused_from (Missing i) n ids known h = absurd h
refused_from (Trace l k) n ids known h = absurd h
refused_from Read n ids known h = absurd h
refused_from Write n ids known h = absurd h
refused_from Start n ids known h = absurd h

pub whole_from : (n : ℕ) (ids : List ℕ) → unknown_id n ids ≡ None → double ids ≡ None → ((k : ℕ) → k < n → is_among k ids ≡ true) → IsWhole n ids
whole_from n ids known once all = record {
  known = known;
  once = λ k lt. omega (arith, distinct_from ids once k, some_times k ids (all k lt));
}

pub missing_from : (i n : ℕ) (ids : List ℕ) → unknown_id n ids ≡ None → double ids ≡ None → i < n → is_among i ids ≡ false → ((k : ℕ) → k < i → is_among k ids ≡ true) → IsRefusal (Missing i) n ids
missing_from i n ids known once below absent least =
    (known, distinct_from ids once, record { below = below; absent = no_times i ids absent; least = λ k lt. some_times k ids (least k lt) })
