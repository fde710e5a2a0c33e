-- Pieces that a witness knows, and their reports.
use Rattle.std.proofs.Common.{◌≡◌, ℕ, suc, zero, List, [], ◌∷◌, ◌++◌, Some, length, map, ap, sym, refl, ◌∙◌, subst, arith}
use Rattle.std.specs.Prelude.{All, slice_get}
use Rattle.line_model.specs.basics.Records.{Piece}
use Rattle.std.proofs.lemmas.List.{map-append}
use Rattle.line_model.specs.pieces.Plans.{result_of}
use Rattle.line_model.specs.work.Book.{KnownPlan, IsPlanned, IsValue}
use Rattle.line_model.specs.basics.Records.{PieceReport}
use Rattle.line_model.specs.work.Work.{numbers_of}
use Rattle.line_model.proofs.Posts.{value_is}
use Rattle.shared_work.specs.queue.Known.{IsFed}
use Rattle.workers.specs.Vouching.{HasPiece, IsRunOfOne, IsValueOfOne}

has-front : (xs ys : List Piece) (p : Piece) → HasPiece xs p → HasPiece (xs ++ ys) p
has-front xs ys p h = (h.0, at xs h.0 h.1)
  where
    at : (l : List Piece) (k : ℕ) → slice_get l k ≡ Some p → slice_get (l ++ ys) k ≡ Some p
    at [] k e = absurd (cc)
    at (x ∷ l) zero e = e
    at (x ∷ l) (suc k) e = at l k e

has-back : (xs ys : List Piece) (p : Piece) → HasPiece ys p → HasPiece (xs ++ ys) p
has-back [] ys p h = h
has-back (x ∷ xs) ys p h = let r = has-back xs ys p h in (suc r.0, r.1)

-- pieces that were added are there
pub has-added : (before added : List Piece) → All (HasPiece (before ++ added)) added
has-added before added k d lt = has-back before added _ (has-own added k d lt)
  where
    has-own : (ps : List Piece) → All (HasPiece ps) ps
    has-own [] k d lt = absurd (omega arith)
    has-own (x ∷ xs) zero d lt = (0, refl)
    has-own (x ∷ xs) (suc k) d lt = let h = has-own xs k d (omega arith) in (suc h.0, h.1)

pub length-numbers : (ps : List Piece) → length (numbers_of ps) ≡ length ps
length-numbers [] = refl
length-numbers (p ∷ ps) = ap suc (length-numbers ps)

-- who knows more pieces vouches for no fewer reports
pub vouches-front : (ran : Piece → PieceReport → Type 0) (xs ys zs : List Piece) (r : PieceReport) → zs ≡ xs ++ ys → IsRunOfOne ran xs r → IsRunOfOne ran zs r
vouches-front ran xs ys zs r e v = (v.0, subst (λ l. HasPiece l v.0) (sym e) (has-front xs ys v.0 v.1), v.2, v.3)

pub vouches-back : (ran : Piece → PieceReport → Type 0) (xs ys zs : List Piece) (r : PieceReport) → zs ≡ xs ++ ys → IsRunOfOne ran ys r → IsRunOfOne ran zs r
vouches-back ran xs ys zs r e v = (v.0, subst (λ l. HasPiece l v.0) (sym e) (has-back xs ys v.0 v.1), v.2, v.3)

some-is : (x p : Piece) → Some x ≡ Some p → x ≡ p
some-is x p e = cc

fed-one : (fed pieces : List Piece) (p : Piece) (k : ℕ) → All (IsFed fed) pieces → slice_get pieces k ≡ Some p → IsFed fed p
fed-one fed [] p k all e = absurd (cc)
fed-one fed (x ∷ xs) p zero all e = subst (IsFed fed) (some-is x p e) (all 0 x (omega arith))
fed-one fed (x ∷ xs) p (suc k) all e = fed-one fed xs p k (λ j d lt. all (suc j) d (omega arith)) e

-- the result of a piece that a witness knows of is that of a piece that was fed
pub value-of-fed : (fed pieces : List Piece) (r : PieceReport) → All (IsFed fed) pieces → IsValueOfOne pieces r → IsValue (Some fed) r
value-of-fed fed pieces r all v = subst (IsValue (Some fed)) (sym v.2) (value_is (Some fed) v.0 (refl, fed-one fed pieces v.0 v.1.0 all v.1.1))

pub run-of-fed : (ran : Piece → PieceReport → Type 0) (fed pieces : List Piece) (r : PieceReport) → All (IsFed fed) pieces → IsRunOfOne ran pieces r → IsRunOfOne ran fed r
run-of-fed ran fed pieces r all v = (v.0, (v.0.id, fed-one fed pieces v.0 v.1.0 all v.1.1), v.2, v.3)

-- the values of pieces, and of one more
pub value_more : (rs : List PieceReport) (r : PieceReport) (ps : List Piece) (p : Piece) → rs ≡ map result_of ps → r ≡ result_of p → rs ++ r ∷ [] ≡ map result_of (ps ++ p ∷ [])
value_more rs r ps p all one = (λ i. all i ++ one i ∷ []) ∙ sym (map-append result_of ps (p ∷ []))

pub values_are : (plan : KnownPlan) (ps : List Piece) → All (λ p. IsPlanned plan p.id p) ps → All (IsValue plan) (map result_of ps)
values_are plan [] all k d lt = absurd (omega arith)
values_are plan (p ∷ ps) all zero d lt = value_is plan p (all 0 p (omega arith))
values_are plan (p ∷ ps) all (suc k) d lt = values_are plan ps (λ j q below. all (suc j) q (omega arith)) k d (omega arith)

pub runs_of : (ran : Piece → PieceReport → Type 0) (pieces ps : List Piece) → All (HasPiece pieces) ps → All (λ p. ran p (result_of p)) ps → All (IsRunOfOne ran pieces) (map result_of ps)
runs_of ran pieces [] all runs k d lt = absurd (omega arith)
runs_of ran pieces (p ∷ ps) all runs zero d lt = (p, all 0 p (omega arith), refl, runs 0 p (omega arith))
runs_of ran pieces (p ∷ ps) all runs (suc k) d lt = runs_of ran pieces ps (λ j q below. all (suc j) q (omega arith)) (λ j q below. runs (suc j) q (omega arith)) k d (omega arith)

-- each piece of some was run, and so was one more
pub All-more : {X : Type 0} (P : X → Type 0) (xs : List X) (x : X) → All P xs → P x → All P (xs ++ x ∷ [])
All-more P [] x all h zero d lt = h
All-more P [] x all h (suc k) d lt = absurd (omega arith)
All-more P (y ∷ ys) x all h zero d lt = all 0 y (omega arith)
All-more P (y ∷ ys) x all h (suc k) d lt = All-more P ys x (λ j q below. all (suc j) q (omega arith)) h k d (omega arith)
