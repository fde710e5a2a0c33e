-- An observer of one interface: an interface level, and one state for each channel. A row steps the interface level or,
-- while the interface is ready, the state of its channel; a row for all channels steps the interface level and each channel.
use Rattle.std.specs.Prelude.{◌≢◌, ℕ, ◌+◌, Bool, true, false, ◌==◌, ◌&&◌, if◌then◌else◌, Option, Some, None, List, [], ◌∷◌}
use Rattle.line_model.specs.declared.gap.EpochStart.{EpochStart}

-- X rows, L line states, S channel states, E events
pub record Machine (X L S E : Type 0) : Type 0 where
  -- the channel of a row that has one
  pub channel : X → Option ℕ
  -- the rows that step each channel, where the interface is ready and stays so
  pub for_all : X → Bool
  -- in a ready interface state the rows of channels step their channels
  pub ready : L → Bool
  pub level_after : L → X → L
  pub level_events : ℕ → L → X → List E
  -- the rows with which a ready interface ends the epoch and begins the next one at once
  pub renews : L → X → Bool
  -- how an epoch begins, by the interface level as it begins
  pub start_of : L → EpochStart
  pub fresh : EpochStart → (epoch channel : ℕ) → S
  pub channel_after : ℕ → ℕ → S → X → S
  pub channel_events : ℕ → ℕ → S → X → List E
  -- the events of a channel at the row that ends its epoch
  pub closing_events : ℕ → ℕ → S → X → List E
  pub channels : List ℕ

-- an observer: the epoch, the interface level, and the state of each channel
pub record Observer (L S : Type 0) : Type 0 where
  pub epoch : ℕ
  pub level : L
  pub states : ℕ → S

-- the function with another value at k
abbrev pub with_state : {S : Type 0} → (ℕ → S) → ℕ → S → ℕ → S
with_state states k s = λ j. if j == k then s else states j

-- whether the interface is ready before a row that steps it, and after it
abbrev pub stays_ready : {X L S E : Type 0} → Machine X L S E → L → X → Bool
stays_ready m l x = m.ready l && m.ready (m.level_after l x)

-- whether the row steps each channel
abbrev pub steps_all : {X L S E : Type 0} → Machine X L S E → L → X → Bool
steps_all m l x = m.for_all x && stays_ready m l x

-- whether the row ends the epoch and begins the next one
abbrev pub renewed : {X L S E : Type 0} → Machine X L S E → L → X → Bool
renewed m l x = m.renews l x && stays_ready m l x

-- the channel of a row that has one alone
abbrev pub channel_unless : {X L S E : Type 0} → Machine X L S E → X → (for_all : Bool) → Option ℕ
channel_unless m x true = None
channel_unless m x false = m.channel x

-- the channel of a row that is not for all channels
abbrev pub own_channel : {X L S E : Type 0} → Machine X L S E → X → Option ℕ
own_channel m x = channel_unless m x (m.for_all x)

-- the channel that the row steps, if it steps one alone
abbrev pub routed : {X L S E : Type 0} → Machine X L S E → L → X → Option ℕ
routed m l x = if m.ready l then own_channel m x else None

-- the next epoch, with all channels fresh for it
abbrev pub next_epoch : {X L S E : Type 0} → Machine X L S E → Observer L S → L → Observer L S
next_epoch m o l = record { epoch = o.epoch + 1; level = l; states = m.fresh (m.start_of l) (o.epoch + 1) }

-- a line that becomes ready begins the next epoch
abbrev pub level_moved : {X L S E : Type 0} → Machine X L S E → Observer L S → L → Bool → Bool → Observer L S
level_moved m o l false true = next_epoch m o l
level_moved m o l _ _ = record { epoch = o.epoch; level = l; states = o.states }

-- the observer after a row that steps the interface level alone; one that renews begins the next epoch too
abbrev pub level_stepped : {X L S E : Type 0} → Machine X L S E → Observer L S → X → (renewed : Bool) → Observer L S
level_stepped m o x true = next_epoch m o (m.level_after o.level x)
level_stepped m o x false = level_moved m o (m.level_after o.level x) (m.ready o.level) (m.ready (m.level_after o.level x))

-- the observer after a row that steps a channel, or the interface level
abbrev pub after_routed : {X L S E : Type 0} → Machine X L S E → Observer L S → X → Option ℕ → Observer L S
after_routed m o x (Some k) = record { epoch = o.epoch; level = o.level; states = with_state o.states k (m.channel_after o.epoch k (o.states k) x) }
after_routed m o x None = level_stepped m o x (renewed m o.level x)

-- the states of the channels after a row that steps each
abbrev pub all_stepped : {X L S E : Type 0} → Machine X L S E → Observer L S → X → ℕ → S
all_stepped m o x = λ k. m.channel_after o.epoch k (o.states k) x

-- the observer after a row, which steps all channels, one or none
abbrev pub after_by : {X L S E : Type 0} → Machine X L S E → Observer L S → X → (all : Bool) → Option ℕ → Observer L S
after_by m o x true r = record { epoch = o.epoch; level = m.level_after o.level x; states = all_stepped m o x }
after_by m o x false r = after_routed m o x r

-- the observer after a row
abbrev pub after : {X L S E : Type 0} → Machine X L S E → Observer L S → X → Observer L S
after m o x = after_by m o x (steps_all m o.level x) (routed m o.level x)

-- the observer after the rows
abbrev pub walk : {X L S E : Type 0} → Machine X L S E → Observer L S → List X → Observer L S
walk m o [] = o
walk m o (x ∷ xs) = walk m (after m o x) xs

-- the row begins an epoch or changes the interface level
abbrev pub ChangesLevel : {X L S E : Type 0} → Machine X L S E → L → X → (renewed : Bool) → Type 0
ChangesLevel m l x true = Unit {0}
ChangesLevel m l x false = m.level_after l x ≢ l

-- the row steps the interface level and changes it
abbrev pub ChangesRouted : {X L S E : Type 0} → Machine X L S E → L → X → Option ℕ → Type 0
ChangesRouted m l x (Some k) = ⊥
ChangesRouted m l x None = ChangesLevel m l x (renewed m l x)

-- the row steps each channel, or changes the interface level
abbrev pub ChangesBy : {X L S E : Type 0} → Machine X L S E → L → X → (all : Bool) → Option ℕ → Type 0
ChangesBy m l x true r = Unit {0}
ChangesBy m l x false r = ChangesRouted m l x r

-- the row changes more than one channel
abbrev pub Changes : {X L S E : Type 0} → Machine X L S E → L → X → Type 0
Changes m l x = ChangesBy m l x (steps_all m l x) (routed m l x)
