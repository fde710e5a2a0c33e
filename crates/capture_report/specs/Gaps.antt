-- Ranges of frames among which packets were lost.
use Rattle.std.specs.Prelude.{◌≡◌, ℕ, ◌&&◌, ◌<◌, ◌≤◌, max, nat_le, nat_lt, Bool, false, List, Option, None, Some, length, take}
use Rattle.std.specs.List.{list_any, slice_index_or}
use Rattle.std.specs.List.Sorted.{IsNonDecreasingBy}
use Rattle.capture_report.specs.declared.gaps.LostRange.{LostRange}
use Rattle.capture_report.specs.declared.gaps.Passed.{Passed}

abbrev pub holds_frame : ℕ → LostRange → Bool
holds_frame frame r = nat_lt r.since frame && nat_le frame r.to

-- whether a frame is in one of the ranges
abbrev pub is_in : List LostRange → ℕ → Bool
is_in ranges frame = list_any (holds_frame frame) ranges

-- they begin one after the other
abbrev pub InOrder : List LostRange → Type 0
InOrder ranges = IsNonDecreasingBy (λ (r : LostRange). r.since) ranges

abbrev pub reaches : Option ℕ → ℕ → Bool
reaches None frame = false
reaches (Some reach) frame = nat_le frame reach

-- the same with one more range
abbrev pub further : Option ℕ → LostRange → Option ℕ
further None r = Some r.to
further (Some reach) r = Some (max reach r.to)

-- the first ranges begin before a frame, and reach so far
pub record ArePassed (ranges : List LostRange) (frame : ℕ) (p : Passed) : Type 0 where
  pub within : p.count ≤ length ranges
  pub same : (f : ℕ) → frame ≤ f → is_in (take p.count ranges) f ≡ reaches p.reach f

-- the range at a place begins before a frame, or there is none there, or a later one
abbrev pub IsNextBefore : List LostRange → (frame place : ℕ) → LostRange → Type 0
IsNextBefore ranges frame place r = (place < length ranges) × (r ≡ slice_index_or ranges place r) × (r.since < frame)

abbrev pub NoneBefore : List LostRange → (frame place : ℕ) → Type 0
NoneBefore ranges frame place = (d : LostRange) → place < length ranges → frame ≤ (slice_index_or ranges place d).since
