-- The state tables (X.25 Annexes B and C), row by row as they are printed. The codes are numbers here; src/diagnostic.rt has their names.
use Rattle.std.specs.Prelude.{ℕ, Bool, false, ◌==◌, List, [], ◌∷◌, ◌++◌, Option, Some, None, if◌then◌else◌}
use Rattle.std.specs.List.{list_any}
use Rattle.line_model.specs.declared.state.Side.{Side}
use Rattle.line_model.specs.declared.state.Side.TheVariants.{T, N}
use Rattle.line_model.specs.declared.state.StateName.{StateName}
use Rattle.line_model.specs.declared.state.StateName.TheVariants.{Dash, R1, R2, R3, P1, P2, P3, P4, P5, P6, P7, D1, D2, D3}
use Rattle.line_model.specs.declared.packet.Class.{Class}
use Rattle.line_model.specs.declared.packet.Class.TheVariants.{Short, WrongFormat, Unassigned, Restart, RestartConfirm, Diagnostic, Registration, TwoOctets, RestartHere, Call, Accepted, Clear, ClearConfirm, Interrupt, InterruptConfirm, Reset, ResetConfirm, Data, Rr, Rnr, Rej, Undefined}
use Rattle.line_model.specs.declared.table.Action.{Action}
use Rattle.line_model.specs.declared.table.Action.TheVariants.{Move, Normal, Error, Discard, Pass, Ends, Below, ToChannel}

-- an entry of a table as it is printed
pub data TableEntry : Type 0 where
  to : StateName → TableEntry
  error : ℕ → TableEntry
  its_code normal discard pass ends below channel : TableEntry
  owed : ℕ → TableEntry

-- a row: the packets that it is for, and an entry for each state
pub record TableRow : Type 0 where
  pub packets : List Class
  pub entries : List TableEntry

-- a table: its states in order, and its rows
pub record Table : Type 0 where
  pub states : List StateName
  pub rows : List TableRow

-- a row of a table
abbrev pub row : List Class → List TableEntry → TableRow
row cs es = record { packets = cs; entries = es }

-- the packets that one row is for
abbrev pub bad : List Class
bad = TwoOctets ∷ Undefined ∷ RestartHere ∷ []

-- data, interrupts, RR and RNR
abbrev pub flow : List Class
flow = Data ∷ Interrupt ∷ InterruptConfirm ∷ Rr ∷ Rnr ∷ []

-- the packets of data transfer and of resets
abbrev pub data_transfer : List Class
data_transfer = flow ++ (Rej ∷ Reset ∷ ResetConfirm ∷ [])

-- the packets on a channel that one row of the restart table is for
abbrev pub on_channel : List Class
on_channel = Call ∷ Accepted ∷ Clear ∷ ClearConfirm ∷ data_transfer

-- X.25 Table C-2 (side T) and Annex B (side N), the codes profile
abbrev pub restart_t : Table
restart_t = record {
  states = R1 ∷ R2 ∷ R3 ∷ [];
  rows =
      row (Restart ∷ []) (to R2 ∷ discard ∷ to R1 ∷ []) ∷
      row (RestartConfirm ∷ []) (error 17 ∷ error 18 ∷ to R1 ∷ []) ∷
      row on_channel (channel ∷ error 18 ∷ discard ∷ []) ∷
      row bad (channel ∷ its_code ∷ discard ∷ []) ∷ [];
}

-- X.25 Annex B, Figure B-1 (side N), the codes profile
abbrev pub restart_n : Table
restart_n = record {
  states = R1 ∷ R2 ∷ R3 ∷ [];
  rows =
      row (Restart ∷ []) (to R3 ∷ to R1 ∷ ends ∷ []) ∷
      row (RestartConfirm ∷ []) (error 17 ∷ to R1 ∷ owed 19 ∷ []) ∷
      row on_channel (channel ∷ pass ∷ owed 19 ∷ []) ∷
      row bad (channel ∷ pass ∷ owed 19 ∷ []) ∷ [];
}

-- X.25 Table C-3 (side T) and Annex B (side N), the codes profile
abbrev pub setup_t : Table
setup_t = record {
  states = P1 ∷ P2 ∷ P3 ∷ P4 ∷ P5 ∷ P6 ∷ P7 ∷ [];
  rows =
      row (Call ∷ []) (to P2 ∷ error 21 ∷ to P5 ∷ error 23 ∷ error 24 ∷ error 25 ∷ discard ∷ []) ∷
      row (Accepted ∷ []) (error 20 ∷ error 21 ∷ to P4 ∷ error 23 ∷ error 24 ∷ error 25 ∷ discard ∷ []) ∷
      row (Clear ∷ []) (to P6 ∷ to P6 ∷ to P6 ∷ to P6 ∷ to P6 ∷ discard ∷ to P1 ∷ []) ∷
      row (ClearConfirm ∷ []) (error 20 ∷ error 21 ∷ error 22 ∷ error 23 ∷ error 24 ∷ error 25 ∷ to P1 ∷ []) ∷
      row data_transfer (error 20 ∷ error 21 ∷ error 22 ∷ below ∷ error 24 ∷ error 25 ∷ discard ∷ []) ∷
      row bad (its_code ∷ its_code ∷ its_code ∷ below ∷ its_code ∷ its_code ∷ discard ∷ []) ∷ [];
}

-- X.25 Annex B (side N), the codes profile
abbrev pub setup_n : Table
setup_n = record {
  states = P1 ∷ P2 ∷ P3 ∷ P4 ∷ P5 ∷ P6 ∷ P7 ∷ [];
  rows =
      row (Call ∷ []) (to P3 ∷ to P5 ∷ error 22 ∷ error 23 ∷ error 24 ∷ pass ∷ owed 26 ∷ []) ∷
      row (Accepted ∷ []) (error 20 ∷ to P4 ∷ error 22 ∷ error 23 ∷ to P4 ∷ pass ∷ owed 26 ∷ []) ∷
      row (Clear ∷ []) (to P7 ∷ to P7 ∷ to P7 ∷ to P7 ∷ to P7 ∷ to P1 ∷ ends ∷ []) ∷
      row (ClearConfirm ∷ []) (error 20 ∷ error 21 ∷ error 22 ∷ error 23 ∷ error 24 ∷ to P1 ∷ owed 26 ∷ []) ∷
      row data_transfer (error 20 ∷ error 21 ∷ error 22 ∷ below ∷ error 24 ∷ pass ∷ owed 26 ∷ []) ∷
      row bad (its_code ∷ its_code ∷ its_code ∷ below ∷ its_code ∷ pass ∷ owed 26 ∷ []) ∷ [];
}

-- X.25 Table C-4 (side T) and Annex B (side N), the codes profile
abbrev pub transfer_t : Table
transfer_t = record {
  states = D1 ∷ D2 ∷ D3 ∷ [];
  rows =
      row (Reset ∷ []) (to D2 ∷ discard ∷ to D1 ∷ []) ∷
      row (ResetConfirm ∷ []) (error 27 ∷ error 28 ∷ to D1 ∷ []) ∷
      row (Rej ∷ []) (error 37 ∷ error 28 ∷ discard ∷ []) ∷
      row flow (normal ∷ error 28 ∷ discard ∷ []) ∷
      row bad (its_code ∷ its_code ∷ discard ∷ []) ∷
      row (Call ∷ Accepted ∷ Clear ∷ ClearConfirm ∷ [])
      (error 35 ∷ error 35 ∷ discard ∷ []) ∷ [];
}

-- X.25 Annex B (side N), the codes profile
abbrev pub transfer_n : Table
transfer_n = record {
  states = D1 ∷ D2 ∷ D3 ∷ [];
  rows =
      row (Reset ∷ []) (to D3 ∷ to D1 ∷ ends ∷ []) ∷
      row (ResetConfirm ∷ []) (error 27 ∷ to D1 ∷ owed 29 ∷ []) ∷
      row (Rej ∷ []) (error 37 ∷ pass ∷ owed 29 ∷ []) ∷
      row flow (normal ∷ pass ∷ owed 29 ∷ []) ∷
      row bad (its_code ∷ pass ∷ owed 29 ∷ []) ∷
      row (Call ∷ Accepted ∷ Clear ∷ ClearConfirm ∷ [])
      (error 35 ∷ pass ∷ owed 29 ∷ []) ∷ [];
}

-- a number for each class and each state, by which they differ
abbrev pub class_number : Class → ℕ
class_number Short = 0
class_number WrongFormat = 1
class_number Unassigned = 2
class_number Restart = 3
class_number RestartConfirm = 4
class_number Diagnostic = 5
class_number Registration = 6
class_number TwoOctets = 7
class_number RestartHere = 8
class_number Call = 9
class_number Accepted = 10
class_number Clear = 11
class_number ClearConfirm = 12
class_number Interrupt = 13
class_number InterruptConfirm = 14
class_number Reset = 15
class_number ResetConfirm = 16
class_number Data = 17
class_number Rr = 18
class_number Rnr = 19
class_number Rej = 20
class_number Undefined = 21

-- a number for each state
abbrev pub state_number : StateName → ℕ
state_number Dash = 0
state_number R1 = 1
state_number R2 = 2
state_number R3 = 3
state_number P1 = 4
state_number P2 = 5
state_number P3 = 6
state_number P4 = 7
state_number P5 = 8
state_number P6 = 9
state_number P7 = 10
state_number D1 = 11
state_number D2 = 12
state_number D3 = 13

-- the entry of a state in a row
abbrev pub entry_at : List StateName → List TableEntry → StateName → Option TableEntry
entry_at [] es s = None
entry_at (c ∷ cs) [] s = None
entry_at (c ∷ cs) (e ∷ es) s = if state_number c == state_number s then Some e else entry_at cs es s

-- the entry of a packet in some rows
abbrev pub entry_in : List StateName → List TableRow → StateName → Class → Option TableEntry
entry_in cs [] s k = None
entry_in cs (r ∷ rs) s k =
    if list_any (λ c. class_number c == class_number k) r.packets then entry_at cs r.entries s else entry_in cs rs s k

-- the first of two that is there
abbrev pub or_else : Option TableEntry → Option TableEntry → Option TableEntry
or_else None o = o
or_else (Some e) o = Some e

-- the entry of the first table that has one
abbrev pub table_entry : List Table → StateName → Class → Option TableEntry
table_entry [] s k = None
table_entry (t ∷ ts) s k = or_else (entry_in t.states t.rows s k) (table_entry ts s k)

-- the tables of a side
abbrev pub tables : Side → List Table
tables T = restart_t ∷ setup_t ∷ transfer_t ∷ []
tables N = restart_n ∷ setup_n ∷ transfer_n ∷ []

-- the code that a class alone gives (profile, after X.25 Annex E)
abbrev pub code_of : Class → ℕ
code_of Short = 38
code_of WrongFormat = 40
code_of Unassigned = 36
code_of TwoOctets = 38
code_of Undefined = 33
code_of RestartHere = 41
code_of _ = 0

-- what an entry does, by whether the indication is owed
abbrev pub act : Bool → Class → Option TableEntry → Action
act w k None = Pass
act w k (Some (to s)) = Move s
act w k (Some (error n)) = Error n
act w k (Some its_code) = Error (code_of k)
act w k (Some normal) = Normal
act w k (Some discard) = Discard
act w k (Some pass) = Pass
act w k (Some ends) = Ends
act w k (Some below) = Below
act w k (Some channel) = ToChannel
act w k (Some (owed n)) = if w then Pass else Error n

-- what a packet of the DTE does in a state (the first cases in every state)
abbrev pub action_t : StateName → Class → Action
action_t s Short = Error 38
action_t s WrongFormat = Error 40
action_t s Unassigned = Error 36
action_t s Registration = Pass
action_t s Diagnostic = Error 36
action_t s k = act false k (table_entry (tables T) s k)

-- what a packet of the DCE does in a state, by whether its indication is owed
abbrev pub action_n : StateName → (owed : Bool) → Class → Action
action_n s w Short = Error 38
action_n s w WrongFormat = Error 40
action_n s w Unassigned = Error 36
action_n s w Registration = Pass
action_n s w Diagnostic = Pass
action_n s w k = act w k (table_entry (tables N) s k)

-- what a packet of a side does
abbrev pub action : Side → StateName → (owed : Bool) → Class → Action
action T s w k = action_t s k
action N s w k = action_n s w k
