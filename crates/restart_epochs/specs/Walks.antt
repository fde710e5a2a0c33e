-- The walk over the rows of a trace, except for what is on the logical channels.
use Rattle.std.specs.Prelude.{◌≡◌, ℕ, ◌+◌, ◌≤◌, ◌==◌, Bool, true, false, cond, List, [], ◌∷◌, ◌++◌, length, Option, Some, None, is_some, option_to_list}
use Rattle.line_model.specs.declared.interface.Interface.{Interface}
use Rattle.line_model.specs.declared.finding.Finding.{Finding}
use Rattle.line_model.specs.declared.finding.Code.TheVariants.{Number}
use Rattle.line_model.specs.declared.gap.EpochStart.{EpochStart}
use Rattle.line_model.specs.declared.state.StateName.TheVariants.{R1}
use Rattle.line_model.specs.declared.route.Route.{Route}
use Rattle.line_model.specs.declared.route.Route.TheVariants.{Enter, Found, Leave, Renew}
use Rattle.line_model.specs.declared.route.Route as route
use Rattle.line_model.specs.packets.Says.{gap_of, packet_channel}
use Rattle.line_model.specs.basics.Records.{Item}
use Rattle.line_model.specs.channels.GapRestart.{GapInterfaceState, is_of_all, routing, start_by}
use Rattle.line_model.specs.observer.Observer.{start}
use Rattle.line_model.specs.declared.packet.Packet.{Packet}
use Rattle.std.specs.Vec.{vec_len, vec_capacity}
use Rattle.restart_epochs.specs.declared.walk.EpochWalk.{EpochWalk}
use Rattle.restart_epochs.specs.declared.walk.Step.{Step}
use Rattle.restart_epochs.specs.declared.walk.ChannelEffect.{ChannelEffect}
use Rattle.restart_epochs.specs.declared.walk.ChannelEffect.TheVariants.{ToChannel, ToAll, Ends, Stays}

-- the finding of the restart machine on a row, by its route
abbrev pub route_finding : Item → Route → List Finding
route_finding r (Found s n) = record { packet = r.number; side = r.side; state = s; code = Number n } ∷ []
route_finding r (Leave (Some n)) = record { packet = r.number; side = r.side; state = R1; code = Number n } ∷ []
route_finding r _ = []

-- the epoch after a row, by its route
abbrev pub epoch_after : ℕ → Route → ℕ
epoch_after epoch Enter = epoch + 1
epoch_after epoch Renew = epoch + 1
epoch_after epoch _ = epoch

-- how an epoch began after a row, by how the one before it began; the next one begins as the restart machine says
abbrev pub start_after : (epoch : ℕ) → EpochStart → (next_epoch : ℕ) → GapInterfaceState → EpochStart
start_after epoch start next_epoch machine = elim (next_epoch == epoch) [ true ↦ start | false ↦ start_by machine ]

-- a row that is passed does nothing to the logical channels, unless it is a gap of them all
abbrev pub passed : (of_all : Bool) → ChannelEffect
passed true = ToAll
passed false = Stays

-- what a row of this packet does to the logical channels, by its route
abbrev pub effect_of : Packet → Route → ChannelEffect
effect_of packet route.TheVariants.ToChannel = ToChannel (packet_channel packet)
effect_of packet (Leave code) = Ends
effect_of packet Renew = Ends
effect_of packet route.TheVariants.Pass = passed (is_of_all (gap_of packet))
effect_of packet _ = Stays

-- the logical channel that a row goes to
abbrev pub channel_in : ChannelEffect → Option ℕ
channel_in (ToChannel channel) = Some channel
channel_in _ = None

-- what a row does to a walk in this state of the restart machine and this epoch
pub record IsStep (level : GapInterfaceState) (before : ℕ) (item : Item) (step : Step) : Type 0 where
  pub machine : step.machine ≡ (routing level item).after
  pub epoch : step.epoch ≡ epoch_after before (routing level item).route
  pub finding : option_to_list step.finding ≡ route_finding item (routing level item).route
  pub gap : step.gap ≡ is_some (gap_of item.packet)
  pub effect : step.effect ≡ effect_of item.packet (routing level item).route

-- what a row does to a walk that goes to a logical channel: the restart machine and the epoch stay
abbrev pub step_to : {A : Type 0} → (channel : ℕ) → EpochWalk A → Item → Step
step_to channel w item = record { machine = w.machine; epoch = w.epoch; finding = None; gap = is_some (gap_of item.packet); effect = ToChannel channel }

-- the walk has room for what a step finds
abbrev pub HasRoom : {A : Type 0} → EpochWalk A → Step → Type 0
HasRoom w step = vec_len w.findings + length (option_to_list step.finding) ≤ vec_capacity w.findings

-- before the first row
pub record IsFresh {A : Type 0} (i : Interface) (w : EpochWalk A) : Type 0 where
  pub interface : w.interface ≡ i
  pub machine : w.machine ≡ (start i).level
  pub epoch : w.epoch ≡ 1
  pub start : w.start ≡ start_by (start i).level
  pub packets : w.packets ≡ 0
  pub gaps : w.gaps ≡ 0
  pub findings : w.findings.items ≡ []

-- before the first row of a block, where the restart machine is this
pub record IsFreshBlock {A : Type 0} (l : GapInterfaceState) (w : EpochWalk A) : Type 0 where
  pub machine : w.machine ≡ l
  pub epoch : w.epoch ≡ 0
  pub packets : w.packets ≡ 0
  pub gaps : w.gaps ≡ 0
  pub findings : w.findings.items ≡ []

-- how the epoch began that is open after the rows of a block, in which `begun` epochs began
abbrev pub start_joined : (begun : ℕ) → (before later : EpochStart) → EpochStart
start_joined begun before later = elim (begun == 0) [ true ↦ before | false ↦ later ]

-- the rows of a block were read
pub record HasJoined {A : Type 0} (block before after : EpochWalk A) : Type 0 where
  pub interface : after.interface ≡ before.interface
  pub machine : after.machine ≡ block.machine
  pub epoch : after.epoch ≡ before.epoch + block.epoch
  pub start : after.start ≡ start_joined block.epoch before.start block.start
  pub packets : after.packets ≡ before.packets + block.packets
  pub gaps : after.gaps ≡ before.gaps + block.gaps
  pub findings : after.findings.items ≡ before.findings.items ++ block.findings.items

-- the same rows were read
pub record IsSameWalk {A : Type 0} (before after : EpochWalk A) : Type 0 where
  pub interface : after.interface ≡ before.interface
  pub machine : after.machine ≡ before.machine
  pub epoch : after.epoch ≡ before.epoch
  pub start : after.start ≡ before.start
  pub packets : after.packets ≡ before.packets
  pub gaps : after.gaps ≡ before.gaps
  pub findings : after.findings.items ≡ before.findings.items

-- the row of a step was read
pub record IsAdvanced {A : Type 0} (step : Step) (before after : EpochWalk A) : Type 0 where
  pub interface : after.interface ≡ before.interface
  pub machine : after.machine ≡ step.machine
  pub epoch : after.epoch ≡ step.epoch
  pub start : after.start ≡ start_after before.epoch before.start step.epoch step.machine
  pub packets : after.packets ≡ before.packets + 1
  pub gaps : after.gaps ≡ before.gaps + cond step.gap 1 0
  pub findings : after.findings.items ≡ before.findings.items ++ option_to_list step.finding
