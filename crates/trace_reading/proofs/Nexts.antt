-- Pieces that come next in the plan of a trace.
use Rattle.std.proofs.Common.{◌≡◌, ◌∙◌, sym, ap, subst, ℕ, zero, suc, ◌+◌, List, [], ◌∷◌, ◌++◌, length, Some, None, arith, append-nil}
use Rattle.std.specs.Prelude.{IfSome, slice_get}
use Rattle.line_model.specs.declared.interface.Interface.{Interface}
use Rattle.line_model.specs.basics.Records.{Item, Piece}
use Rattle.line_model.specs.work.Book.{KnownPlan, IsPlanned}
use Rattle.line_model.specs.pieces.Plans.{plan}
use Rattle.line_model.proofs.BookTotals.{numbers_law}
use Rattle.restart_epochs.proofs.Heads.{given_first}
use Rattle.restart_epochs.specs.Cutting.{given_of}
use Rattle.workers.specs.Workers.{ArePlanned}

get_behind : {X : Type 0} (xs ys : List X) (k : ℕ) → slice_get (xs ++ ys) (length xs + k) ≡ slice_get ys k
get_behind [] ys k = ap (slice_get ys) (omega arith)
get_behind (x ∷ xs) ys k = let next : length (x ∷ xs) + k ≡ suc (length xs + k) = omega arith in ap (slice_get (x ∷ (xs ++ ys))) next ∙ get_behind xs ys k

get_before : {X : Type 0} (xs ys : List X) (k : ℕ) (x : X) → slice_get xs k ≡ Some x → slice_get (xs ++ ys) k ≡ Some x
get_before [] ys k x h = absurd cc
get_before (y ∷ xs) ys zero x h = h
get_before (y ∷ xs) ys (suc k) x h = get_before xs ys k x h

at_place : (known pieces more all : List Piece) (k : ℕ) (p : Piece) → (known ++ pieces) ++ more ≡ all → slice_get pieces k ≡ Some p → slice_get all (length known + k) ≡ Some p
at_place known pieces more all k p e h =
    ap (λ l. slice_get l (length known + k)) (sym e)
    ∙ get_before (known ++ pieces) more (length known + k) p (get_behind known pieces k ∙ h)

in_plan : (known : KnownPlan) (first pieces : List Piece) (k : ℕ) (p : Piece) → IfSome known (λ ps. (rest : List Piece) × ((first ++ pieces) ++ rest ≡ ps)) → slice_get pieces k ≡ Some p
    → IfSome known (λ ps. slice_get ps (length first + k) ≡ Some p)
in_plan None first pieces k p h e = tt
in_plan (Some ps) first pieces k p h e = at_place first pieces h.0 ps k p h.1 e

-- the pieces after the first ones of the plan of some rows
pub are_next : (known : KnownPlan) (i : Interface) (rs : List Item) (first pieces more : List Piece) (n : ℕ) → n ≡ length first → (first ++ pieces) ++ more ≡ plan i rs
    → IfSome known (λ ps. (rest : List Piece) × ((first ++ pieces) ++ rest ≡ ps)) → ArePlanned known n pieces
are_next known i rs first pieces more n count whole planned k p h =
    let place : length first + k ≡ n + k = ap (λ m. m + k) (sym count) in
    subst (λ m. IsPlanned known m p) place
    (numbers_law i rs (length first + k) p (at_place first pieces more (plan i rs) k p whole h), in_plan known first pieces k p planned h)

rest_of : (known : KnownPlan) (first pieces given : List Piece) → first ++ pieces ≡ given → IfSome known (λ ps. (rest : List Piece) × (given ++ rest ≡ ps)) → IfSome known (λ ps. (rest : List Piece) × ((first ++ pieces) ++ rest ≡ ps))
rest_of None first pieces given e h = tt
rest_of (Some ps) first pieces given e h = (h.0, ap (λ l. l ++ h.0) e ∙ h.1)

-- those that are complete with some more rows
pub given_next : (known : KnownPlan) (i : Interface) (rs : List Item) (first pieces : List Piece) (n : ℕ) → n ≡ length first → first ++ pieces ≡ given_of i rs
    → IfSome known (λ ps. (rest : List Piece) × (given_of i rs ++ rest ≡ ps)) → ArePlanned known n pieces
given_next known i rs first pieces n count whole planned =
    let all = given_first i rs [] in
    are_next known i rs first pieces all.0 n count (ap (λ l. l ++ all.0) whole ∙ all.1 ∙ ap (plan i) (append-nil rs)) (rest_of known first pieces (given_of i rs) whole planned)

none_behind : (known : KnownPlan) (first pieces all : List Piece) → first ++ pieces ≡ all → IfSome known (λ ps. ps ≡ all) → IfSome known (λ ps. (rest : List Piece) × ((first ++ pieces) ++ rest ≡ ps))
none_behind None first pieces all e h = tt
none_behind (Some ps) first pieces all e h = ([], append-nil (first ++ pieces) ∙ e ∙ sym h)

-- the last ones
pub last_next : (known : KnownPlan) (i : Interface) (rs : List Item) (first pieces : List Piece) (n : ℕ) → n ≡ length first → first ++ pieces ≡ plan i rs → IfSome known (λ ps. ps ≡ plan i rs) → ArePlanned known n pieces
last_next known i rs first pieces n count whole planned =
    are_next known i rs first pieces [] n count (append-nil (first ++ pieces) ∙ whole) (none_behind known first pieces (plan i rs) whole planned)
