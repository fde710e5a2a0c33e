-- What a batch of items keeps: each item, with places among the octets of the batch instead of octets.
use Rattle.std.specs.Prelude.{ℕ, ◌-◌, ◌≤◌, List, [], drop, map, take}
use Rattle.std.specs.List.{AllByRecursion}
use Rattle.xot_circuits.specs.Items.{Item}
use Rattle.xot_circuits.specs.Items as item
use Rattle.capture_report.specs.declared.circuit_batch.Kept.{Kept}
use Rattle.capture_report.specs.declared.circuit_batch.Kept.TheVariants as kept
use Rattle.capture_report.specs.declared.circuit_batch.KeptPacket.{KeptPacket}

abbrev pub packet_view : List ℕ → KeptPacket → item.Sent
packet_view octets k = record { origin = k.origin; side = k.side; what = k.what; octets = take (k.to - k.from) (drop k.from octets) }

abbrev pub kept_view : List ℕ → Kept → Item
kept_view octets (kept.Packet k) = item.Packet (packet_view octets k)
kept_view octets (kept.Gap g) = item.Gap g
kept_view octets (kept.LeftOut k) = item.LeftOut (packet_view octets k)
kept_view octets (kept.Ended e) = item.Ended e

-- the items of what is kept
abbrev pub items_kept : List ℕ → List Kept → List Item
items_kept octets xs = map (kept_view octets) xs

-- places of so many octets
abbrev pub IsPacketWithin : (count : ℕ) → KeptPacket → Type 0
IsPacketWithin n k = (k.from ≤ k.to) × (k.to ≤ n)

abbrev pub IsWithin : (count : ℕ) → Kept → Type 0
IsWithin n (kept.Packet k) = IsPacketWithin n k
IsWithin n (kept.Gap g) = Unit {0}
IsWithin n (kept.LeftOut k) = IsPacketWithin n k
IsWithin n (kept.Ended e) = Unit {0}

abbrev pub AreWithin : (count : ℕ) → List Kept → Type 0
AreWithin n xs = AllByRecursion (IsWithin n) xs

-- the octets of an item
abbrev pub item_octets : Item → List ℕ
item_octets (item.Packet s) = s.octets
item_octets (item.Gap g) = []
item_octets (item.LeftOut s) = s.octets
item_octets (item.Ended e) = []
