-- The height of a sweep over times that are sorted.
use Rattle.std.specs.Prelude.{◌≡◌, ℕ, ◌<◌, ◌≤◌, ◌+◌, ◌-◌, Bool, false, ◌&&◌, nat_le, count_by, List, slice_index, Option, Some, None, MatchOption}
use Rattle.line_model.specs.observer.Peak.{is_after}
use Rattle.line_model.specs.basics.Records.{CallRecord}

-- whether a call is up at time n
abbrev pub is_call_up : ℕ → CallRecord → Bool
is_call_up n c = elim c.up [ Some u ↦ nat_le u n && is_after n c.ended | None ↦ false ]

-- how many of the numbers are at most n
abbrev pub up_to : ℕ → List ℕ → ℕ
up_to n xs = count_by (λ x. nat_le x n) xs

-- the ups up to the one at i, less the ends up to its time
abbrev pub height : List ℕ → List ℕ → ℕ → ℕ
height ups ends i = (i + 1) - up_to (slice_index ups i) ends

-- the greatest of the first heights, and the time of the first that has it; none for 0
pub record IsHighest (ups ends : List ℕ) (n : ℕ) (count : ℕ) (packet : Option ℕ) : Type 0 where
  pub greatest : (i : ℕ) → i < n → height ups ends i ≤ count
  pub first : MatchOption packet (count ≡ 0) (λ u. (0 < count) × ((i : ℕ) × (i < n) × (slice_index ups i ≡ u) × (height ups ends i ≡ count) × ((k : ℕ) → k < i → height ups ends k < count)))
