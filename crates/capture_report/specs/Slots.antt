-- Channels on which the rows of open circuits are seen.
use Rattle.std.specs.Prelude.{All, ℕ, ◌+◌, ◌≤◌, nat_lt, List, [], ◌∷◌, Option, None, Some, if◌then◌else◌}
use Rattle.std.specs.BTreeMap.{insert_entry, is_at}
use Rattle.std.specs.Map.{lookup, remove_entry}
use Rattle.std.specs.Ordering.{nat_cmp}

-- the slots of open circuits by their connections, those that were given back, the last one of these first, and the last one that a
-- circuit had
pub record SlotTable : Type 0 where
  pub taken : List (ℕ × ℕ)
  pub free : List ℕ
  pub last : ℕ

abbrev pub all_free : SlotTable
all_free = record { taken = []; free = []; last = 0 }

abbrev pub slot_at : (connection : ℕ) → SlotTable → Option ℕ
slot_at n t = lookup (is_at (nat_cmp n)) t.taken

-- the slot for a circuit that begins: that which was given back last, or the next one that no circuit had; 0 where none is left
abbrev pub first_slot : (free : List ℕ) → (last : ℕ) → ℕ
first_slot (slot ∷ free) last = slot
first_slot [] last = if nat_lt last 4095 then last + 1 else 0

abbrev pub next_slot : SlotTable → ℕ
next_slot t = first_slot t.free t.last

abbrev pub without_first : List ℕ → List ℕ
without_first [] = []
without_first (slot ∷ free) = free

abbrev pub last_after : (free : List ℕ) → (last : ℕ) → ℕ
last_after (slot ∷ free) last = last
last_after [] last = if nat_lt last 4095 then last + 1 else last

abbrev pub with_slot : (connection : ℕ) → SlotTable → SlotTable
with_slot n t = record { taken = insert_entry nat_cmp t.taken n (next_slot t); free = without_first t.free; last = last_after t.free t.last }

-- the end of a circuit gives its slot back
abbrev pub given_back_by : Option ℕ → (connection : ℕ) → SlotTable → SlotTable
given_back_by None n t = t
given_back_by (Some slot) n t = record t { taken = remove_entry (is_at (nat_cmp n)) t.taken; free = if nat_lt 0 slot then slot ∷ t.free else t.free }

abbrev pub given_back : (connection : ℕ) → SlotTable → SlotTable
given_back n t = given_back_by (slot_at n t) n t

-- slots are logical channels, or 0
abbrev pub AreSlots : List ℕ → Type 0
AreSlots xs = All (λ x. x ≤ 4095) xs
