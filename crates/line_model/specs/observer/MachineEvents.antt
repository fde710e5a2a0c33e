-- The events of a machine's walk, each with its row, its epoch and its channel.
use Rattle.std.specs.Prelude.{ℕ, Bool, true, false, Option, Some, None, List, [], ◌∷◌, ◌++◌, map}
use Rattle.std.specs.List.{flat_map}
use Rattle.line_model.specs.observer.Machine.{Machine, Observer, routed, steps_all, renewed, after}

-- an event with its row and with the epoch and the channel that it belongs to; a line event has no channel
pub record RowEvent (X E : Type 0) : Type 0 where
  pub epoch : ℕ
  pub channel : Option ℕ
  pub row : X
  pub what : E

-- contents with their epoch, channel and row
abbrev pub stamp : {X E : Type 0} → ℕ → Option ℕ → X → List E → List (RowEvent X E)
stamp e c x ws = map (λ w. record { epoch = e; channel = c; row = x; what = w }) ws

-- a line that was ready and is not any more closes each channel
abbrev pub closed_events : {X L S E : Type 0} → Machine X L S E → Observer L S → X → Bool → Bool → List (RowEvent X E)
closed_events m o x true false = flat_map (λ k. stamp o.epoch (Some k) x (m.closing_events o.epoch k (o.states k) x)) m.channels
closed_events m o x _ _ = []

-- what a row that steps the interface level closes; one that renews closes each channel
abbrev pub ended_events : {X L S E : Type 0} → Machine X L S E → Observer L S → X → (renewed : Bool) → List (RowEvent X E)
ended_events m o x true = closed_events m o x true false
ended_events m o x false = closed_events m o x (m.ready o.level) (m.ready (m.level_after o.level x))

-- the events of the interface level
abbrev pub level_row_events : {X L S E : Type 0} → Machine X L S E → Observer L S → X → List (RowEvent X E)
level_row_events m o x = stamp o.epoch None x (m.level_events o.epoch o.level x)

-- the events of a row that steps a channel, or the interface level
abbrev pub row_events_routed : {X L S E : Type 0} → Machine X L S E → Observer L S → X → Option ℕ → List (RowEvent X E)
row_events_routed m o x (Some k) = stamp o.epoch (Some k) x (m.channel_events o.epoch k (o.states k) x)
row_events_routed m o x None = level_row_events m o x ++ ended_events m o x (renewed m o.level x)

-- the events of a row, which steps all channels, one or none; where it steps all channels, these have no events
abbrev pub row_events_by : {X L S E : Type 0} → Machine X L S E → Observer L S → X → (all : Bool) → Option ℕ → List (RowEvent X E)
row_events_by m o x true r = level_row_events m o x
row_events_by m o x false r = row_events_routed m o x r

-- the events of a row
abbrev pub row_events : {X L S E : Type 0} → Machine X L S E → Observer L S → X → List (RowEvent X E)
row_events m o x = row_events_by m o x (steps_all m o.level x) (routed m o.level x)

-- the events of the walk, in order
abbrev pub walk_events : {X L S E : Type 0} → Machine X L S E → Observer L S → List X → List (RowEvent X E)
walk_events m o [] = []
walk_events m o (x ∷ xs) = row_events m o x ++ walk_events m (after m o x) xs

-- each row with its events, in order
abbrev pub events_by_row : {X L S E : Type 0} → Machine X L S E → Observer L S → List X → List (X × List (RowEvent X E))
events_by_row m o [] = []
events_by_row m o (x ∷ xs) = (x, row_events m o x) ∷ events_by_row m (after m o x) xs
