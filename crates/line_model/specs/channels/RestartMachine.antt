-- The restart machine (X.25 clause 3.3, Table C-2, Annex B).
use Rattle.std.specs.Prelude.{ℕ, Bool, true, false, nat_lt, ◌&&◌, [], ◌∷◌, Option, Some, None}
use Rattle.line_model.specs.declared.diagnostic.TheConstants.{PACKET_TOO_SHORT, PACKET_TOO_LONG}
use Rattle.line_model.specs.declared.packet.Class.{Class}
use Rattle.line_model.specs.declared.packet.Class.TheVariants.{Short, WrongFormat, Unassigned, Diagnostic, Registration, Restart, RestartConfirm}
use Rattle.line_model.specs.declared.state.Side.{Side}
use Rattle.line_model.specs.declared.state.Side.TheVariants.{T, N}
use Rattle.line_model.specs.declared.state.RState.{RState}
use Rattle.line_model.specs.declared.state.RState as restart
use Rattle.line_model.specs.declared.state.StateName.{StateName}
use Rattle.line_model.specs.declared.state.StateName.TheVariants.{Dash, R1, R2, R3}
use Rattle.line_model.specs.declared.table.Action.{Action}
use Rattle.line_model.specs.declared.table.Action.TheVariants.{Move, Error, Ends, ToChannel}
use Rattle.line_model.specs.declared.route.Route.{Route}
use Rattle.line_model.specs.declared.route.Route as route
use Rattle.line_model.specs.basics.Choice.{first_fault}
use Rattle.line_model.specs.channels.Tables.{action}

-- the state of the restart machine, and whether its indication is owed
pub record InterfaceState : Type 0 where
  pub state : RState
  pub owed : Bool
  -- the trace began in the middle, and r1 was not left yet
  pub joining : Bool

-- r1 with nothing owed
abbrev pub level_in_r1 : (joining : Bool) → InterfaceState
level_in_r1 joining = record { state = restart.TheVariants.R1; owed = false; joining = joining }

-- where a row goes, and the restart machine after it
pub record Routing : Type 0 where
  pub route : Route
  pub after : InterfaceState

-- the name of a state
abbrev pub restart_name : RState → StateName
restart_name restart.TheVariants.R1 = R1
restart_name restart.TheVariants.R2 = R2
restart_name restart.TheVariants.R3 = R3

-- the packets that are judged outside the machines, in every state
abbrev pub is_outside : Class → Bool
is_outside Short = true
is_outside WrongFormat = true
is_outside Unassigned = true
is_outside Diagnostic = true
is_outside Registration = true
is_outside _ = false

-- the fault of a restart packet's format, by its length
abbrev pub restart_fault : Class → ℕ → Option ℕ
restart_fault Restart n = first_fault ((nat_lt n 4, PACKET_TOO_SHORT) ∷ (nat_lt 5 n, PACKET_TOO_LONG) ∷ [])
restart_fault RestartConfirm n = first_fault ((nat_lt 3 n, PACKET_TOO_LONG) ∷ [])
restart_fault _ n = None

-- a move: r1 is entered, or left without a finding, or neither
abbrev pub restart_move : RState → StateName → Routing
restart_move s R1 = record { route = route.TheVariants.Enter; after = level_in_r1 false }
restart_move restart.TheVariants.R1 R2 =
    record { route = route.TheVariants.Leave None; after = record { state = restart.TheVariants.R2; owed = false; joining = false } }
restart_move restart.TheVariants.R1 t =
    record { route = route.TheVariants.Leave None; after = record { state = restart.TheVariants.R3; owed = false; joining = false } }
restart_move s R2 = record { route = route.TheVariants.Pass; after = record { state = restart.TheVariants.R2; owed = false; joining = false } }
restart_move s t = record { route = route.TheVariants.Pass; after = record { state = restart.TheVariants.R3; owed = false; joining = false } }

-- a move by a packet that may have a fault, which is a finding in place of the move
abbrev pub restart_moving : InterfaceState → StateName → (fault : Option ℕ) → Routing
restart_moving l s (Some f) = record { route = route.TheVariants.Found (restart_name l.state) f; after = l }
restart_moving l s None = restart_move l.state s

-- an error: the DTE's has the DCE restart and owe the indication, the DCE's changes nothing
abbrev pub restart_error : InterfaceState → Side → ℕ → Routing
restart_error l N n = record { route = route.TheVariants.Found (restart_name l.state) n; after = l }
restart_error l T n = elim l.state [
  | restart.TheVariants.R1 ↦ record { route = route.TheVariants.Leave (Some n); after = record { state = restart.TheVariants.R3; owed = true; joining = false } }
  | s ↦ record { route = route.TheVariants.Found (restart_name s) n; after = record { state = restart.TheVariants.R3; owed = true; joining = false } }
]

-- a packet that is judged outside the machines: an error is a finding with no state
abbrev pub outside_step : InterfaceState → Action → Routing
outside_step l (Error n) = record { route = route.TheVariants.Found Dash n; after = l }
outside_step l _ = record { route = route.TheVariants.Pass; after = l }

-- an entry of the restart table
abbrev pub restart_step : InterfaceState → Side → Class → (length : ℕ) → Action → Routing
restart_step l x k n (Move s) = restart_moving l s (restart_fault k n)
restart_step l x k n (Error f) = restart_error l x f
restart_step l x k n Ends = record { route = route.TheVariants.Pass; after = record l { owed = false } }
restart_step l x k n ToChannel = record { route = route.TheVariants.ToChannel; after = l }
restart_step l x k n _ = record { route = route.TheVariants.Pass; after = l }

-- until r1 is first left, the confirmation of a restart before the trace passes (profile)
abbrev pub is_confirm : Class → Bool
is_confirm RestartConfirm = true
is_confirm _ = false

-- whether a packet is such a confirmation
abbrev pub passes_joining : InterfaceState → Class → Bool
passes_joining l k = l.joining && is_confirm k

-- a packet that is judged by the restart table, if it does not pass
abbrev pub inside_step : (passes : Bool) → InterfaceState → Side → Class → (length : ℕ) → Routing
inside_step true l x k n = record { route = route.TheVariants.Pass; after = l }
inside_step false l x k n = restart_step l x k n (action x (restart_name l.state) l.owed k)

-- a packet of a class and a length, from a side
abbrev pub level_step : InterfaceState → Side → Class → (length : ℕ) → Routing
level_step l x k n = elim (is_outside k) [
  | true ↦ outside_step l (action x (restart_name l.state) l.owed k)
  | false ↦ inside_step (passes_joining l k) l x k n
]
