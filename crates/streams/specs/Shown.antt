-- The bytes that a reader or a writer shows.
use Rattle.std.specs.Prelude.{ℕ, Bool, true, List, Option, None, Some, is_some}

-- the bytes that it shows now, where it showed some when it was made
abbrev pub shown : (first now : Option (List ℕ)) → Option (List ℕ)
shown None now = None
shown (Some bytes) now = now

-- what showed its bytes when it was made still does
abbrev pub still_shows : (first now : Option (List ℕ)) → Bool
still_shows None now = true
still_shows (Some bytes) now = is_some now

-- the bytes that a reader has left, and those that it had left before its last read
pub record Left : Type 0 where
  pub left : Option (List ℕ)
  pub before : Option (List ℕ)
