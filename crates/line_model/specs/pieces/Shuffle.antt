-- Lists of rows in which the order of the rows of different channels was changed.
use Rattle.std.specs.Prelude.{◌≡◌, ℕ, Bool, false, ◌==◌, Option, Some, None, List, ◌∷◌, ◌++◌}
use Rattle.std.specs.List.{filter}
use Rattle.std.specs.List.Sorted.{IsPermutation}
use Rattle.line_model.specs.observer.Machine.{Machine, Observer, own_channel, walk, Changes}
use Rattle.line_model.specs.observer.MachineEvents.{events_by_row}

-- whether a row is one of channel k
abbrev pub is_channel : ℕ → Option ℕ → Bool
is_channel k (Some j) = j == k
is_channel k None = false

-- the rows of channel k, in order
abbrev pub rows_on : {X L S E : Type 0} → Machine X L S E → ℕ → List X → List X
rows_on m k xs = filter (λ x. is_channel k (own_channel m x)) xs

-- the same rows; a row that changes the interface level, or steps each channel, has the same rows before it; the rows of a channel keep their order
pub record IsShuffle {X L S E : Type 0} (m : Machine X L S E) (start : Observer L S) (xs ys : List X) : Type 0 where
  pub same_rows : IsPermutation xs ys
  pub same_before : (before : List X) (x : X) (behind : List X) → xs ≡ before ++ x ∷ behind → Changes m (walk m start before).level x
      → (before' : List X) × (behind' : List X) × (ys ≡ before' ++ x ∷ behind') × IsPermutation before before'
  pub same_order : (k : ℕ) → rows_on m k ys ≡ rows_on m k xs

-- each row has the same events in both walks, and both end in one observer
pub record SameWalks {X L S E : Type 0} (m : Machine X L S E) (start : Observer L S) (xs ys : List X) : Type 0 where
  pub events : IsPermutation (events_by_row m start xs) (events_by_row m start ys)
  pub observer : walk m start ys ≡ walk m start xs
