-- The restart machine of a recording with gaps (profile; it follows from the rule of Gaps.antt).
use Rattle.std.specs.Prelude.{ℕ, Bool, true, false, ◌&&◌, Option, Some, None}
use Rattle.line_model.specs.declared.packet.Class.{Class}
use Rattle.line_model.specs.declared.packet.Class.TheVariants.{Restart, RestartConfirm}
use Rattle.line_model.specs.declared.state.Side.{Side}
use Rattle.line_model.specs.declared.state.Side.TheVariants.{N}
use Rattle.line_model.specs.declared.state.RState.{RState}
use Rattle.line_model.specs.declared.state.RState as restart
use Rattle.line_model.specs.declared.route.Route.{Route}
use Rattle.line_model.specs.declared.route.Route as route
use Rattle.line_model.specs.declared.gap.EpochStart.{EpochStart}
use Rattle.line_model.specs.declared.gap.EpochStart.TheVariants.{Restarted, Drifting}
use Rattle.line_model.specs.basics.Records.{Item}
use Rattle.line_model.specs.packets.Classes.{packet_class}
use Rattle.line_model.specs.packets.Says.{gap_of}
use Rattle.line_model.specs.channels.FlowControl.{is_side}
use Rattle.line_model.specs.channels.RestartMachine.{InterfaceState, Routing, level_in_r1, level_step, restart_fault}

-- the state of the restart machine, whether the interface is adrift, which it is in r1 alone, and whether the restart
-- indication was owed as it came adrift
pub record GapInterfaceState : Type 0 where
  pub level : InterfaceState
  pub adrift : Bool
  pub owed_before : Bool

-- where a row goes, and the restart machine after it
pub record GapRouting : Type 0 where
  pub route : Route
  pub after : GapInterfaceState

-- r1, adrift or not
abbrev pub level_in_r1_with : (adrift owed_before : Bool) → GapInterfaceState
level_in_r1_with adrift owed_before = record { level = level_in_r1 false; adrift = adrift; owed_before = owed_before }

-- in r1 the rows of channels step their channels
abbrev pub is_ready : GapInterfaceState → Bool
is_ready g = elim g.level.state [ restart.TheVariants.R1 ↦ true | _ ↦ false ]

-- nothing happens
abbrev pub level_stays : GapInterfaceState → GapRouting
level_stays g = record { route = route.TheVariants.Pass; after = g }

-- what the restart machine does without gaps
abbrev pub level_takes : GapInterfaceState → Routing → GapRouting
level_takes g r = record { route = r.route; after = record g { level = r.after } }

-- whether a packet restarts the interface, or confirms that
abbrev pub is_of_restart : Class → Bool
is_of_restart Restart = true
is_of_restart RestartConfirm = true
is_of_restart k = false

-- a confirmation of a side shows that a restart was missed; one of the DCE may be in place of the indication that was owed
abbrev pub adrift_confirmation : Side → GapInterfaceState → GapRouting
adrift_confirmation x g = elim (is_side N x && g.owed_before) [
  | true ↦ level_stays g
  | false ↦ record { route = route.TheVariants.Renew; after = level_in_r1_with false false }
]

-- a packet of a restart while the interface is adrift: none is a finding
abbrev pub adrift_restart : Side → Class → (fault : Option ℕ) → GapInterfaceState → GapRouting
adrift_restart x k (Some f) g = level_stays g
adrift_restart x RestartConfirm None g = adrift_confirmation x g
adrift_restart x k None g = record { route = route.TheVariants.Renew; after = level_in_r1_with true false }

-- a packet of a class and a length, from a side
abbrev pub gap_level_step : GapInterfaceState → Side → Class → (length : ℕ) → GapRouting
gap_level_step g x k n = elim (g.adrift && is_ready g && is_of_restart k) [
  | true ↦ adrift_restart x k (restart_fault k n) g
  | false ↦ level_takes g (level_step g.level x k n)
]

-- a gap of all channels in a state: outside r1 the other packet of the restart may be in the gap
abbrev pub gap_in : RState → GapInterfaceState → GapRouting
gap_in restart.TheVariants.R1 g = record { route = route.TheVariants.Pass; after = record g { adrift = true } }
gap_in restart.TheVariants.R2 g = record { route = route.TheVariants.Enter; after = level_in_r1_with true false }
gap_in restart.TheVariants.R3 g = record { route = route.TheVariants.Enter; after = level_in_r1_with true g.level.owed }

-- a gap of a channel is handed to it in r1
abbrev pub gap_on : RState → GapInterfaceState → GapRouting
gap_on restart.TheVariants.R1 g = record { route = route.TheVariants.ToChannel; after = g }
gap_on s g = level_stays g

-- a gap of a channel, or of all
abbrev pub gap_routing : Option ℕ → GapInterfaceState → GapRouting
gap_routing None g = gap_in g.level.state g
gap_routing (Some c) g = gap_on g.level.state g

-- what the restart machine does with a gap, or with a packet of a class and a length, from a side
abbrev pub routing_by : Option (Option ℕ) → GapInterfaceState → Side → Class → (length : ℕ) → GapRouting
routing_by None g x k n = gap_level_step g x k n
routing_by (Some c) g x k n = gap_routing c g

-- what the restart machine does with a row
abbrev pub routing : GapInterfaceState → Item → GapRouting
routing g r = routing_by (gap_of r.packet) g r.side (packet_class r.packet) r.length

-- whether a gap is one of all channels
abbrev pub is_of_all : Option (Option ℕ) → Bool
is_of_all (Some None) = true
is_of_all _ = false

-- whether a row is a gap of all channels
abbrev pub is_gap_of_all : Item → Bool
is_gap_of_all r = is_of_all (gap_of r.packet)

-- how an epoch begins
abbrev pub start_with : (adrift owed_before : Bool) → EpochStart
start_with true owed_before = Drifting owed_before
start_with false owed_before = Restarted

-- how an epoch begins, by the restart machine as it begins
abbrev pub start_by : GapInterfaceState → EpochStart
start_by g = start_with g.adrift g.owed_before
