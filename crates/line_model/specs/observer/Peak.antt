-- The greatest number of channels that are up, after any row and over the times of the calls.
use Rattle.std.specs.Prelude.{Some, None, ◌≡◌, ℕ, ◌+◌, ◌<◌, ◌≤◌, Bool, true, false, not, ◌&&◌, ◌||◌, nat_lt, nat_le, if◌then◌else◌, Option, List, [], ◌∷◌, ◌++◌, MatchOption}
use Rattle.std.specs.List.{filter, AllByRecursion}
use Rattle.line_model.specs.observer.Machine.{Machine, Observer, after}
use Rattle.line_model.specs.observer.MachineEvents.{RowEvent}
use Rattle.line_model.specs.declared.gap.EpochStart.{EpochStart}
use Rattle.line_model.specs.pieces.Merge.{belongs}

-- how many members a test is true of
abbrev pub how_many : {X : Type 0} → (X → Bool) → List X → ℕ
how_many p [] = 0
how_many p (x ∷ xs) = (if p x then 1 else 0) + how_many p xs

-- whether a test is true of a member
abbrev pub some_is : {X : Type 0} → (X → Bool) → List X → Bool
some_is p [] = false
some_is p (x ∷ xs) = p x || some_is p xs

-- a list of numbered counts: the greatest, and the number of the first that has it; none for 0
pub record IsPeakOfRows (counts : List (ℕ × ℕ)) (peak : ℕ) (at : Option ℕ) : Type 0 where
  pub greatest : AllByRecursion (λ p. p.1 ≤ peak) counts
  pub first : MatchOption at (peak ≡ 0) (λ n. (0 < peak) × ((front : List (ℕ × ℕ)) × (back : List (ℕ × ℕ)) × (counts ≡ front ++ (n, peak) ∷ back) × AllByRecursion (λ p. p.1 < peak) front))

-- a count at each time: the greatest, and the least time that has it; none for 0
pub record IsPeakOfTimes (count : ℕ → ℕ) (peak : ℕ) (at : Option ℕ) : Type 0 where
  pub greatest : (n : ℕ) → count n ≤ peak
  pub first : MatchOption at (peak ≡ 0) (λ n. (0 < peak) × (count n ≡ peak) × ((k : ℕ) → k < n → count k < peak))

-- an event that ends a call comes after the row `low`, up to the row `high`
abbrev pub ends_between : {X E : Type 0} → (E → Bool) → (X → ℕ) → ℕ → ℕ → RowEvent X E → Bool
ends_between ends number low high u = ends u.what && (nat_lt low (number u.row) && nat_le (number u.row) high)

-- the event's call is up at time n: the event comes up to n, and no later end of its epoch and channel does
abbrev pub is_alive : {X E : Type 0} → (E → Bool) → (X → ℕ) → List (RowEvent X E) → ℕ → RowEvent X E → Bool
is_alive ends number vs n v = nat_le (number v.row) n && not (some_is (ends_between ends number (number v.row) n) (filter (belongs v.epoch v.channel) vs))

-- how many calls are up at time n
abbrev pub calls_up : {X E : Type 0} → (E → Bool) → (E → Bool) → (X → ℕ) → List (RowEvent X E) → ℕ → ℕ
calls_up ups ends number vs n = how_many (λ v. ups v.what && is_alive ends number vs n v) vs

-- how many channels are up
abbrev pub channels_up : {X L S E : Type 0} → Machine X L S E → (ℕ → S → Bool) → Observer L S → ℕ
channels_up m is_up o = how_many (λ k. is_up k (o.states k)) m.channels

-- how many channels are up after each row
abbrev pub counts : {X L S E : Type 0} → Machine X L S E → (ℕ → S → Bool) → (X → ℕ) → Observer L S → List X → List (ℕ × ℕ)
counts m is_up number o [] = []
counts m is_up number o (x ∷ xs) = (number x, channels_up m is_up (after m o x)) ∷ counts m is_up number (after m o x) xs

-- in the states that channels reach (valid), a channel comes up with one `ups` event, and while it is up it goes down
-- with an `ends` event, at its own row or at its closing
pub record MarksCalls {X L S E : Type 0} (m : Machine X L S E) (valid is_up : ℕ → S → Bool) (ups ends : E → Bool) : Type 0 where
  pub fresh_valid : (b : EpochStart) (e k : ℕ) → valid k (m.fresh b e k) ≡ true
  pub stays_valid : (e k : ℕ) (s : S) (x : X) → valid k s ≡ true → valid k (m.channel_after e k s x) ≡ true
  pub fresh : (b : EpochStart) (e k : ℕ) → is_up k (m.fresh b e k) ≡ false
  -- a row for all channels brings none up, and none down
  pub for_all_keeps : (e k : ℕ) (s : S) (x : X) → m.for_all x ≡ true → valid k s ≡ true → is_up k (m.channel_after e k s x) ≡ is_up k s
  pub comes_up : (e k : ℕ) (s : S) (x : X) → valid k s ≡ true → how_many ups (m.channel_events e k s x) ≡ (if not (is_up k s) && is_up k (m.channel_after e k s x) then 1 else 0)
  pub goes_down : (e k : ℕ) (s : S) (x : X) → valid k s ≡ true → is_up k s ≡ true → some_is ends (m.channel_events e k s x) ≡ not (is_up k (m.channel_after e k s x))
  pub closes : (e k : ℕ) (s : S) (x : X) → valid k s ≡ true → is_up k s ≡ true → some_is ends (m.closing_events e k s x) ≡ true
  pub closes_alone : (e k : ℕ) (s : S) (x : X) → how_many ups (m.closing_events e k s x) ≡ 0
  pub level_alone : (e : ℕ) (l : L) (x : X) → how_many ups (m.level_events e l x) ≡ 0

-- from when to when a call is up
pub record Times : Type 0 where
  pub up : ℕ
  pub ended : Option ℕ

-- whether a time is before an end, if there is one
abbrev pub is_after : ℕ → Option ℕ → Bool
is_after n None = true
is_after n (Some b) = nat_lt n b

-- whether a call is up at a time
abbrev pub is_up_at : ℕ → Times → Bool
is_up_at n t = nat_le t.up n && is_after n t.ended

-- the number of the first end after a row
abbrev pub end_behind : {X E : Type 0} → (E → Bool) → (X → ℕ) → ℕ → List (RowEvent X E) → Option ℕ
end_behind ends number low [] = None
end_behind ends number low (u ∷ us) = if ends u.what && nat_lt low (number u.row) then Some (number u.row) else end_behind ends number low us

-- the times of the call that an event begins, by the events of its epoch and channel
abbrev pub times_of : {X E : Type 0} → (E → Bool) → (X → ℕ) → RowEvent X E → List (RowEvent X E) → Times
times_of ends number v us = record { up = number v.row; ended = end_behind ends number (number v.row) us }

-- the greatest of some numbered counts with its number, the first where several have it, none for 0
abbrev pub highest_from : ℕ × Option ℕ → List (ℕ × ℕ) → ℕ × Option ℕ
highest_from best [] = best
highest_from best (c ∷ cs) = elim (nat_lt best.0 c.1) [
  | true ↦ highest_from (c.1, Some c.0) cs
  | false ↦ highest_from best cs
]

-- the greatest of some numbered counts
abbrev pub highest : List (ℕ × ℕ) → ℕ × Option ℕ
highest counts = highest_from (0, None) counts
