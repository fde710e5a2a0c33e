-- The first id that is not of the plan, in lists of reports one after the other.
use Rattle.std.proofs.Common.{◌≡◌, ◌∙◌, ℕ, ◌+◌, ◌<◌, nat_lt, not, Bool, true, false, cond, List, [], ◌∷◌, ◌++◌, length, get_or, drop, refl, sym, ap, Option, Some, None, flat_map}
use Rattle.std.proofs.lemmas.List.{at_drop_more}
use Rattle.line_model.specs.basics.Records.{PieceReport}
use Rattle.line_model.specs.work.Book.{ids_of}
use Rattle.line_model.proofs.Schedules.{ids-append}
use Rattle.report_merge.specs.Refusal.{unknown_id}

abbrev either : Option ℕ → Option ℕ → Option ℕ
either (Some i) o = Some i
either None o = o

front_first : (n : ℕ) (xs ys : List ℕ) → unknown_id n (xs ++ ys) ≡ either (unknown_id n xs) (unknown_id n ys)
front_first n [] ys = refl
front_first n (x ∷ xs) ys = at (nat_lt x n) (front_first n xs ys)
  where
    at : (b : Bool) → unknown_id n (xs ++ ys) ≡ either (unknown_id n xs) (unknown_id n ys) → cond (not b) (Some x) (unknown_id n (xs ++ ys)) ≡ either (cond (not b) (Some x) (unknown_id n xs)) (unknown_id n ys)
    at true later = later
    at false later = refl

-- what is left begins with this one
pub split_first : {T : Type 0} → (f : T → List PieceReport) (n : ℕ) (xs : List T) (i : ℕ) (x : T) → i < length xs → x ≡ get_or xs i x
    → unknown_id n (ids_of (flat_map f (drop i xs))) ≡ either (unknown_id n (ids_of (f x))) (unknown_id n (ids_of (flat_map f (drop (i + 1) xs))))
split_first {T} f n xs i x lt is =
    at_drop_more (λ l. unknown_id n (ids_of (flat_map f l))) xs i x lt
    ∙ ap (λ (y : T). unknown_id n (ids_of (f y ++ flat_map f (drop (i + 1) xs)))) (sym is)
    ∙ ap (unknown_id n) (ids-append (f x) (flat_map f (drop (i + 1) xs)))
    ∙ front_first n (ids_of (f x)) (ids_of (flat_map f (drop (i + 1) xs)))

pub at_none : (o p : Option ℕ) → o ≡ None → either o p ≡ p
at_none o p none = ap (λ x. either x p) none

pub at_some : (i : ℕ) (o p : Option ℕ) → o ≡ Some i → either o p ≡ Some i
at_some i o p some = ap (λ x. either x p) some
