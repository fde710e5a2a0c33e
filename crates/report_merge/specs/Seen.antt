-- Ids that are marked as they are seen.
use Rattle.std.specs.Prelude.{◌≡◌, ℕ, Bool, false, ◌||◌, ◌==◌, List, [], ◌∷◌, Option, Some, None, if◌then◌else◌}
use Rattle.line_model.specs.declared.fault.Fault.{Fault}
use Rattle.line_model.specs.declared.fault.Fault.TheVariants.{Memory, Double}

-- whether a number is in a list
abbrev pub is_among : ℕ → List ℕ → Bool
is_among k [] = false
is_among k (i ∷ is) = k == i || is_among k is

-- the first id that also occurs before, or among those that were seen
abbrev pub double_with : (ℕ → Bool) → List ℕ → Option ℕ
double_with seen [] = None
double_with seen (i ∷ is) = if seen i then Some i else double_with (λ k. k == i || seen k) is

-- the first id that also occurs before it
abbrev pub double : List ℕ → Option ℕ
double ids = double_with (λ k. false) ids

-- refused memory, or an id that occurs twice
abbrev pub IsRefused : Fault → Option ℕ → Type 0
IsRefused Memory o = Unit {0}
IsRefused (Double i) o = o ≡ Some i
IsRefused _ o = ⊥
