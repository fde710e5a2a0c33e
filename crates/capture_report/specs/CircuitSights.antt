-- What the packets of circuits show of the header, before circuits have logical channels.
--
-- Each circuit whose connection has not ended has a slot of its own, from 1 to 4,095, and its rows are seen on that channel. Where
-- none is left it has slot 0, and its gaps alone are seen.
use Rattle.std.specs.Prelude.{ℕ, ◌-◌, nat_lt, max, Bool, true, false, List, [], ◌∷◌, Option, None, Some, if◌then◌else◌}
use Rattle.std.specs.Option.{unwrap_or}
use Rattle.xot_circuits.specs.Items.{Item}
use Rattle.xot_circuits.specs.Items as item
use Rattle.capture_report.specs.CircuitRows.{CircuitContent, CircuitRow, Missing, Sent, circuit_row_of, on_channel}
use Rattle.capture_report.specs.Circuits.{All, Counted, Of, Step, circuits_in, end_counted, last_used, next_number, none_counted, row_counted, step_counted, steps_counted}
use Rattle.capture_report.specs.Contents.{gap_of_all}
use Rattle.capture_report.specs.Headers.{begun_on, nothing_seen, seen_with}
use Rattle.capture_report.specs.Slots.{SlotTable, all_free, given_back, next_slot, slot_at, with_slot}
use Rattle.capture_report.specs.declared.circuit_row.CircuitRule.{CircuitRule}
use Rattle.capture_report.specs.declared.circuits.Circuits.{Circuits}
use Rattle.capture_report.specs.declared.circuits.SeenCircuit.{SeenCircuit}
use Rattle.capture_report.specs.declared.header.Seen.{Seen}
use Rattle.capture_report.specs.declared.options.GivenHeader.{GivenHeader}

-- the slots of open circuits, and what was seen
pub record Sighted : Type 0 where
  pub slots : SlotTable
  pub seen : Seen

abbrev pub first_sighted : Sighted
first_sighted = record { slots = all_free; seen = nothing_seen }

-- the slot of a circuit, which may begin
abbrev pub slot_for : (connection : ℕ) → Sighted → ℕ
slot_for n s = unwrap_or (slot_at n s.slots) (next_slot s.slots)

abbrev pub begun_by : Option ℕ → (connection : ℕ) → (known : Bool) → Sighted → Sighted
begun_by (Some slot) n known s = s
begun_by None n known s = record { slots = with_slot n s.slots; seen = begun_on (next_slot s.slots) known s.seen }

abbrev pub with_circuit : (connection : ℕ) → (known : Bool) → Sighted → Sighted
with_circuit n known s = begun_by (slot_at n s.slots) n known s

-- a packet without a slot is not seen
abbrev pub is_seen : (slot : ℕ) → CircuitContent → Bool
is_seen slot Missing = true
is_seen slot (Sent side xs) = nat_lt 0 slot

-- a row on the slot of its circuit
abbrev pub seen_on : (slot : ℕ) → CircuitRow → Sighted → Sighted
seen_on slot r s = if is_seen slot r.content then record s { seen = seen_with (on_channel slot r) s.seen } else s

abbrev pub row_sighted : Option CircuitRow → Sighted → Sighted
row_sighted None s = s
row_sighted (Some r) s = seen_on (slot_for r.connection s) r (with_circuit r.connection true s)

-- a circuit begins where a gap shows that the recording began inside of its connection, and else with its first row
abbrev pub joined : Item → Sighted → Sighted
joined (item.Gap g) s = if g.is_beginning then with_circuit g.connection false s else s
joined i s = s

-- and it ends with its connection
abbrev pub left : Item → Sighted → Sighted
left (item.Ended e) s = record s { slots = given_back e.connection s.slots }
left i s = s

abbrev pub item_sighted : CircuitRule → Item → Sighted → Sighted
item_sighted rule i s = left i (row_sighted (circuit_row_of rule i) (joined i s))

abbrev pub step_sighted : CircuitRule → Step → Sighted → Sighted
step_sighted rule (All p) s = record s { seen = seen_with (gap_of_all p) s.seen }
step_sighted rule (Of i) s = item_sighted rule i s

abbrev pub steps_sighted : CircuitRule → List Step → Sighted → Sighted
steps_sighted rule [] s = s
steps_sighted rule (x ∷ xs) s = steps_sighted rule xs (step_sighted rule x s)

-- what they show; the last channel that is used is that of the circuits
abbrev pub circuits_seen : CircuitRule → (last : ℕ) → List Step → Seen
circuits_seen rule last xs = record (steps_sighted rule xs first_sighted).seen { highest = last }

-- a number that no row exceeds, where rows have the numbers of their frames; a gap has the one before
abbrev pub content_number : CircuitContent → (frame : ℕ) → ℕ
content_number Missing frame = frame - 1
content_number (Sent side xs) frame = frame

abbrev pub row_number : Option CircuitRow → ℕ → ℕ
row_number None n = n
row_number (Some r) n = max (content_number r.content r.place.frame) (next_number n)

abbrev pub step_number : CircuitRule → Step → ℕ → ℕ
step_number rule (All p) n = max (p.frame - 1) (next_number n)
step_number rule (Of i) n = row_number (circuit_row_of rule i) n

abbrev pub last_number : CircuitRule → List Step → ℕ → ℕ
last_number rule [] n = n
last_number rule (x ∷ xs) n = last_number rule xs (step_number rule x n)

-- ---- all of it, after more steps

pub record CircuitSight : Type 0 where
  pub rule : CircuitRule
  pub counted : Counted
  pub sighted : Sighted
  pub number : ℕ

abbrev pub sight_in : Circuits → CircuitSight
sight_in c = record { rule = c.rule; counted = c.counted; sighted = record { slots = c.slots; seen = c.seen }; number = c.number }

abbrev pub first_circuit_sight : CircuitRule → CircuitSight
first_circuit_sight rule = record { rule = rule; counted = none_counted; sighted = first_sighted; number = 0 }

abbrev pub step_seen : Step → CircuitSight → CircuitSight
step_seen x s = record { rule = s.rule; counted = step_counted s.rule x s.counted; sighted = step_sighted s.rule x s.sighted; number = step_number s.rule x s.number }

abbrev pub steps_seen : List Step → CircuitSight → CircuitSight
steps_seen xs s = record { rule = s.rule; counted = steps_counted s.rule xs s.counted; sighted = steps_sighted s.rule xs s.sighted; number = last_number s.rule xs s.number }

-- the parts of a step that is an item
abbrev pub item_joined : Item → CircuitSight → CircuitSight
item_joined i s = record s { sighted = joined i s.sighted }

abbrev pub row_seen : Option CircuitRow → CircuitSight → CircuitSight
row_seen r s = record s { counted = row_counted r s.counted; sighted = row_sighted r s.sighted; number = row_number r s.number }

abbrev pub item_ended : Item → CircuitSight → CircuitSight
item_ended i s = record s { counted = end_counted i s.counted; sighted = left i s.sighted }

-- what it shows where the recording has ended: the circuits, what they show of the header, and a number that no row exceeds
pub record CircuitsFound : Type 0 where
  pub circuits : List SeenCircuit
  pub seen : Seen
  pub number : ℕ

abbrev pub found_in : GivenHeader → CircuitSight → CircuitsFound
found_in g s = record { circuits = circuits_in s.counted; seen = record s.sighted.seen { highest = last_used g (circuits_in s.counted) }; number = s.number }
