-- The walk cut into pieces: the rows of one channel in one epoch.
use Rattle.std.specs.Prelude.{◌≡◌, ◌≢◌, ℕ, ◌⊎◌, Bool, true, false, not, ◌&&◌, ◌==◌, if◌then◌else◌, Option, Some, None, List, [], ◌∷◌, ◌++◌, map}
use Rattle.std.specs.List.{filter}
use Rattle.line_model.specs.declared.gap.EpochStart.{EpochStart}
use Rattle.line_model.specs.declared.gap.EpochStart.TheVariants.{Restarted}
use Rattle.line_model.specs.observer.Machine.{Machine, Observer, routed, steps_all, renewed, after}
use Rattle.line_model.specs.observer.MachineEvents.{RowEvent, stamp}
use Rattle.line_model.specs.pieces.Shuffle.{is_channel}

-- the event belongs to channel k in epoch e
abbrev pub is_of : {X E : Type 0} → ℕ → ℕ → RowEvent X E → Bool
is_of e k v = is_channel k v.channel && (v.epoch == e)

-- a row with its epoch, how the epoch began where the row is its first, the channel that the row steps, whether it
-- steps all, and whether it ends the epoch
pub record Placed (X : Type 0) : Type 0 where
  pub row : X
  pub epoch : ℕ
  pub start : EpochStart
  pub channel : Option ℕ
  pub all : Bool
  pub leaves : Bool

-- whether a row that steps the interface level makes it no longer ready, or renews it
abbrev pub leaves_level : {X L S E : Type 0} → Machine X L S E → L → X → (renewed : Bool) → Bool
leaves_level m l x true = true
leaves_level m l x false = m.ready l && not (m.ready (m.level_after l x))

-- whether a row that steps a channel, or the interface level, ends the epoch
abbrev pub leaves_routed : {X L S E : Type 0} → Machine X L S E → L → X → Option ℕ → Bool
leaves_routed m l x (Some k) = false
leaves_routed m l x None = leaves_level m l x (renewed m l x)

-- whether a row ends the epoch: one that steps all channels, one channel, or the interface level
abbrev pub leaves_by : {X L S E : Type 0} → Machine X L S E → L → X → (all : Bool) → Option ℕ → Bool
leaves_by m l x true r = false
leaves_by m l x false r = leaves_routed m l x r

-- a row with its place
abbrev pub place : {X L S E : Type 0} → Machine X L S E → Observer L S → X → Placed X
place m o x = record {
  row = x;
  epoch = o.epoch;
  start = m.start_of o.level;
  channel = routed m o.level x;
  all = steps_all m o.level x;
  leaves = leaves_by m o.level x (steps_all m o.level x) (routed m o.level x);
}

-- the rows of a walk with their places
abbrev pub placed : {X L S E : Type 0} → Machine X L S E → Observer L S → List X → List (Placed X)
placed m o [] = []
placed m o (x ∷ xs) = place m o x ∷ placed m (after m o x) xs

-- the rows of channel k in epoch e
abbrev pub piece_rows : {X : Type 0} → ℕ → ℕ → List (Placed X) → List X
piece_rows e k ps = map (λ p. p.row) (filter (λ p. is_channel k p.channel && (p.epoch == e)) ps)

-- whether a row steps channel k, with all others where it is for all
abbrev pub steps_by : {X : Type 0} → ℕ → Placed X → (for_all : Bool) → Bool
steps_by k p true = p.all
steps_by k p false = is_channel k p.channel

-- the rows that step channel k in epoch e: its own, and those for all channels
abbrev pub step_rows : {X L S E : Type 0} → Machine X L S E → ℕ → ℕ → List (Placed X) → List X
step_rows m e k ps = map (λ p. p.row) (filter (λ p. steps_by k p (m.for_all p.row) && (p.epoch == e)) ps)

-- how epoch e began
abbrev pub piece_start : {X : Type 0} → ℕ → List (Placed X) → EpochStart
piece_start e [] = Restarted
piece_start e (p ∷ ps) = if p.epoch == e then p.start else piece_start e ps

-- the row with which epoch e was left
abbrev pub piece_end : {X : Type 0} → ℕ → List (Placed X) → Option X
piece_end e [] = None
piece_end e (p ∷ ps) = if p.leaves && (p.epoch == e) then Some p.row else piece_end e ps

-- the events of channel k at a row that steps it; a row for all channels has none
abbrev pub step_events : {X L S E : Type 0} → Machine X L S E → ℕ → ℕ → S → X → (for_all : Bool) → List (RowEvent X E)
step_events m e k s x true = []
step_events m e k s x false = stamp e (Some k) x (m.channel_events e k s x)

-- the events of the steps over the rows of one channel alone, and of its end
abbrev pub events_of_steps : {X L S E : Type 0} → Machine X L S E → ℕ → ℕ → S → List X → Option X → List (RowEvent X E)
events_of_steps m e k s [] None = []
events_of_steps m e k s [] (Some x) = stamp e (Some k) x (m.closing_events e k s x)
events_of_steps m e k s (x ∷ xs) end = step_events m e k s x (m.for_all x) ++ events_of_steps m e k (m.channel_after e k s x) xs end

-- the events of the piece of channel k in epoch e
abbrev pub events_of_piece : {X L S E : Type 0} → Machine X L S E → ℕ → ℕ → List (Placed X) → List (RowEvent X E)
events_of_piece m e k ps = events_of_steps m e k (m.fresh (piece_start e ps) e k) (step_rows m e k ps) (piece_end e ps)

-- k is not in the list
abbrev pub IsAbsent : ℕ → List ℕ → Type 0
IsAbsent k [] = Unit {0}
IsAbsent k (j ∷ js) = (j ≢ k) × IsAbsent k js

-- k is in the list once
abbrev pub OccursOnce : ℕ → List ℕ → Type 0
OccursOnce k [] = ⊥
OccursOnce k (j ∷ js) = ((j ≡ k) × IsAbsent k js) ⊎ ((j ≢ k) × OccursOnce k js)
