-- The part of a file that is in memory, and how far its reader is.
use Rattle.std.specs.Prelude.{◌≡◌, ℕ, List, [], ◌++◌, Option, None, Some}

-- octets that were consumed last, those ahead, and how many more fit
pub record WindowView : Type 0 where
  pub last : List ℕ
  pub ahead : List ℕ
  pub spare : ℕ

-- what is still to be read: the octets ahead, and those that the source has left, where it shows them
abbrev pub still : List ℕ → Option (List ℕ) → Option (List ℕ)
still ahead None = None
still ahead (Some left) = Some (ahead ++ left)

-- where the source shows its octets, these were read of what was still to be read
abbrev pub Passes : Option (List ℕ) → Option (List ℕ) → List ℕ → Type 0
Passes before after octets = (file : List ℕ) → before ≡ Some file → (rest : List ℕ) × (after ≡ Some rest) × (file ≡ octets ++ rest)

-- the same of a window, by what the source had left before and has now
abbrev pub Advances : (before : WindowView) (left_before : Option (List ℕ)) (after : WindowView) (left_after : Option (List ℕ)) → List ℕ → Type 0
Advances before left_before after left_after octets = Passes (still before.ahead left_before) (still after.ahead left_after) octets

-- where the source shows its octets, it has none left now
abbrev pub IsAtEnd : (before left : Option (List ℕ)) → Type 0
IsAtEnd before left = (file : List ℕ) → before ≡ Some file → left ≡ Some []
