-- A line that is written from its end to its front.
use Rattle.std.specs.Prelude.{◌≡◌, ℕ, List, ◌++◌, Option, Some}

-- bytes were put before a line, if there was room for all
pub record Puts (bytes : List ℕ) (before after : Option (List ℕ)) : Type 0 where
  pub whole : (line : List ℕ) → after ≡ Some line → (rest : List ℕ) × (before ≡ Some rest) × (line ≡ bytes ++ rest)

-- bytes of a form were
pub record PutsForm (form : List ℕ → Type 0) (before after : Option (List ℕ)) : Type 0 where
  pub whole : (line : List ℕ) → after ≡ Some line → (rest : List ℕ) × (bytes : List ℕ) × (before ≡ Some rest) × (line ≡ bytes ++ rest) × form bytes
