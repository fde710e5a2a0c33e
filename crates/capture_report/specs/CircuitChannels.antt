-- The logical channels of circuits by their connections.
use Rattle.std.specs.Prelude.{All, ◌≤◌, ℕ, List, Option}
use Rattle.std.specs.BTreeMap.{is_at}
use Rattle.std.specs.Map.{lookup, values_of}
use Rattle.std.specs.Ordering.{nat_cmp}

abbrev pub channel_of : List (ℕ × ℕ) → (connection : ℕ) → Option ℕ
channel_of cs n = lookup (is_at (nat_cmp n)) cs

abbrev pub IsChannel : ℕ → Type 0
IsChannel c = (1 ≤ c) × (c ≤ 4095)

abbrev pub AreChannels : List (ℕ × ℕ) → Type 0
AreChannels cs = All IsChannel (values_of cs)
