-- Facts on lists, at a loop's step.
use Rattle.std.proofs.Common.{◌≡◌, ℕ, suc, refl, List, [], ◌∷◌, length, subst, arith}
use Rattle.std.specs.Prelude.{All, sum_by}

pub All-rest : {X : Type 0} (P : X → Type 0) (ys xs : List X) (x : X) → ys ≡ x ∷ xs → All P ys → All P xs
All-rest P ys xs x e h k d lt = subst (λ l. All P l) e h (suc k) d (omega arith)

pub sum-of-none : {X : Type 0} (f : X → ℕ) (xs : List X) → length xs ≡ 0 → sum_by f xs ≡ 0
sum-of-none f [] none = refl
sum-of-none f (x ∷ xs) none = absurd (omega (arith, none))
