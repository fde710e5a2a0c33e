-- Which ids of reports are refused (profile).
use Rattle.std.specs.Prelude.{◌≡◌, ℕ, ◌<◌, ◌≤◌, not, nat_lt, List, ◌∷◌, ◌++◌, find, Option, Some, None}
use Rattle.line_model.specs.declared.fault.Fault.{Fault}
use Rattle.line_model.specs.declared.fault.Fault.TheVariants.{Memory, Double, UnknownPiece, Missing}
use Rattle.line_model.specs.work.Book.{times}

-- the first id that is not below the number of pieces
abbrev pub unknown_id : (pieces : ℕ) → List ℕ → Option ℕ
unknown_id n ids = find (λ i. not (nat_lt i n)) ids

-- no number occurs twice
abbrev pub IsDistinct : List ℕ → Type 0
IsDistinct ids = (x : ℕ) → times x ids ≤ 1

-- the first id that also occurs before
pub record IsFirstDouble (i : ℕ) (ids : List ℕ) : Type 0 where
  pub front : List ℕ
  pub back : List ℕ
  pub place : ids ≡ front ++ i ∷ back
  pub before : 0 < times i front
  pub first : IsDistinct front

-- the least id below the number of pieces that is absent
pub record IsLeastAbsent (i pieces : ℕ) (ids : List ℕ) : Type 0 where
  pub below : i < pieces
  pub absent : times i ids ≡ 0
  pub least : (k : ℕ) → k < i → 0 < times k ids

-- why reports are refused: unknown ids first, then doubles, then what is missing, and refused memory after the unknown ids
abbrev pub IsRefusal : Fault → (pieces : ℕ) → List ℕ → Type 0
IsRefusal (UnknownPiece i) n ids = unknown_id n ids ≡ Some i
IsRefusal (Double i) n ids = (unknown_id n ids ≡ None) × IsFirstDouble i ids
IsRefusal (Missing i) n ids = (unknown_id n ids ≡ None) × IsDistinct ids × IsLeastAbsent i n ids
IsRefusal Memory n ids = unknown_id n ids ≡ None
IsRefusal _ n ids = ⊥

-- each number below that of the pieces occurs once, and no other does
pub record IsWhole (pieces : ℕ) (ids : List ℕ) : Type 0 where
  pub known : unknown_id pieces ids ≡ None
  pub once : (k : ℕ) → k < pieces → times k ids ≡ 1
