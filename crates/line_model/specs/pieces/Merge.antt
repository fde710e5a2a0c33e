-- What is drawn from the events of pieces, put in the order of the rows, is what is drawn from the walk.
use Rattle.std.specs.Prelude.{◌≡◌, ◌≢◌, ℕ, ◌≤◌, ◌⊎◌, Bool, true, false, ◌&&◌, ◌==◌, Option, Some, None, List, [], ◌∷◌, ◌++◌, map, length}
use Rattle.std.specs.List.{filter, flat_map, AllByRecursion}
use Rattle.line_model.specs.declared.gap.EpochStart.{EpochStart}
use Rattle.line_model.specs.observer.Machine.{Machine, Observer, own_channel}
use Rattle.line_model.specs.observer.MachineEvents.{RowEvent, row_events, walk_events}
use Rattle.line_model.specs.pieces.Pieces.{is_of, placed, piece_rows, events_of_piece, OccursOnce}

-- an event of the interface level
abbrev pub has_no_channel : Option ℕ → Bool
has_no_channel None = true
has_no_channel (Some k) = false

-- whether an event is one of the interface level
abbrev pub is_level : {X E : Type 0} → RowEvent X E → Bool
is_level v = has_no_channel v.channel

-- belongs to this epoch and channel, or to the interface level
abbrev pub belongs : {X E : Type 0} → ℕ → Option ℕ → RowEvent X E → Bool
belongs e None v = is_level v
belongs e (Some k) v = is_of e k v

-- for each event of the kind, what is made of it and of the events of its epoch and channel: a finding, or a call's record
abbrev pub drawn : {X E Y : Type 0} → (RowEvent X E → Bool) → (RowEvent X E → List (RowEvent X E) → Y) → List (RowEvent X E) → List Y
drawn kind make vs = map (λ v. make v (filter (belongs v.epoch v.channel) vs)) (filter kind vs)

-- the test is true of no place of the list
abbrev pub NoneOf : {I : Type 0} → (I → Bool) → List I → Type 0
NoneOf f [] = Unit {0}
NoneOf f (i ∷ is) = (f i ≡ false) × NoneOf f is

-- the test is true of exactly one place of the list
abbrev pub ExactlyOne : {I : Type 0} → (I → Bool) → List I → Type 0
ExactlyOne f [] = ⊥
ExactlyOne f (i ∷ is) = ((f i ≡ true) × NoneOf f is) ⊎ ((f i ≡ false) × ExactlyOne f is)

-- the channel of the row is one of the machine's
abbrev pub IsServed : {X L S E : Type 0} → Machine X L S E → X → Type 0
IsServed m x = (k : ℕ) → own_channel m x ≡ Some k → OccursOnce k m.channels

-- the channel has nothing to close
abbrev pub IsClosed : {X L S E : Type 0} → Machine X L S E → (epoch channel : ℕ) → S → Type 0
IsClosed {X} m e k s = (x : X) → m.closing_events e k s x ≡ []

-- each of the machine's channels is listed once, those of the rows are among them, and a fresh channel has nothing to close, after rows for all channels too
pub record HasChannels {X L S E : Type 0} (m : Machine X L S E) (xs : List X) : Type 0 where
  pub once : AllByRecursion (λ k. OccursOnce k m.channels) m.channels
  pub of_rows : AllByRecursion (IsServed m) xs
  pub nothing_to_close : (b : EpochStart) (e k : ℕ) → IsClosed m e k (m.fresh b e k)
  pub stays_closed : (e k : ℕ) (s : S) (x : X) → m.for_all x ≡ true → IsClosed m e k s → IsClosed m e k (m.channel_after e k s x)

-- the list has each piece once, by its epoch and channel; a piece has a row
pub record IsPlan {X L S E : Type 0} (m : Machine X L S E) (start : Observer L S) (xs : List X) (plan : List (ℕ × ℕ)) : Type 0 where
  pub has_rows : AllByRecursion (λ p. piece_rows p.0 p.1 (placed m start xs) ≢ []) plan
  pub has_pieces : (e k : ℕ) → piece_rows e k (placed m start xs) ≢ [] → ExactlyOne (λ p. (k == p.1) && (e == p.0)) plan

-- what is drawn from the events of the interface level and from each piece
abbrev pub drawn_apart : {X L S E Y : Type 0} → Machine X L S E → Observer L S → List X → List (ℕ × ℕ) → (RowEvent X E → Bool) → (RowEvent X E → List (RowEvent X E) → Y) → List Y
drawn_apart m start xs plan kind make =
    drawn kind make (filter is_level (walk_events m start xs)) ++ flat_map (λ p. drawn kind make (events_of_piece m p.0 p.1 (placed m start xs))) plan

-- at most one event of a row is of the kind
abbrev pub OnePerRow : {X L S E : Type 0} → Machine X L S E → (RowEvent X E → Bool) → Type 0
OnePerRow {X} {L} {S} m kind = (o : Observer L S) (x : X) → length (filter kind (row_events m o x)) ≤ 1
