-- The rows of the open epoch, by logical channel (profile).
use Rattle.std.specs.Prelude.{◌≡◌, ◌≢◌, ℕ, ◌<◌, nat_lt, length, List, [], ◌∷◌, ◌++◌, map, Option, Some, None, Bool, true, false, not}
use Rattle.std.specs.BTreeSet.{insert_key}
use Rattle.std.specs.Ordering.{nat_cmp}
use Rattle.std.specs.List.{AllByRecursion}
use Rattle.line_model.specs.basics.Records.{Item}
use Rattle.line_model.specs.channels.GapRestart.{is_gap_of_all}
use Rattle.line_model.specs.packets.Says.{gap_items}
use Rattle.line_model.specs.pieces.Plan.{has_some}
use Rattle.line_model.specs.text.Text.{last_or}
use Rattle.restart_epochs.specs.ChannelTables.{ChannelTables, value_at, no_open_channels}

-- ---- rows of a channel, and the last gap of all channels

-- the number of the last row, or 0
abbrev pub last_number : List Item → ℕ
last_number rows = last_or 0 (map (λ r. r.number) rows)

-- a gap of all channels by its number, where it came after a row of that number; 0 means no gap
abbrev pub gap_after : (gap number : ℕ) → Option ℕ
gap_after gap number = elim (nat_lt number gap) [ true ↦ Some gap | false ↦ None ]

-- rows, and after them the last gap of all channels, if it came after the last of them
abbrev pub with_gap : (gap : ℕ) → List Item → List Item
with_gap gap rows = rows ++ gap_items (gap_after gap (last_number rows))

-- whether rows begin with one other than a gap of all channels
abbrev pub begins_with_row : List Item → Bool
begins_with_row [] = false
begins_with_row (r ∷ rs) = not (is_gap_of_all r)

-- rows, and later ones after them, with the last gap of all channels between them unless the later ones begin with another
abbrev pub with_part : (gap : ℕ) → (rows later : List Item) → List Item
with_part gap rows later = elim (begins_with_row later) [ true ↦ with_gap gap rows ++ later | false ↦ rows ++ later ]

-- ---- the rows of all channels

-- a list of rows for each channel that has some
abbrev pub OpenRows : Type 0
OpenRows = ChannelTables (List Item)

-- the rows in the place of a channel; none of an empty one
abbrev pub rows_in : Option (List Item) → List Item
rows_in None = []
rows_in (Some items) = items

-- the rows of a channel
abbrev pub rows_of : OpenRows → ℕ → List Item
rows_of open_rows k = rows_in (value_at open_rows k)

-- a channel that is not listed has no rows
abbrev pub HasNoOthers : OpenRows → Type 0
HasNoOthers o = (k : ℕ) → AllByRecursion (λ j. j ≢ k) o.channels → rows_of o k ≡ []

-- the channels that are listed have rows, and no others
pub record IsListing (o : OpenRows) : Type 0 where
  pub listed : AllByRecursion (λ k. has_some (rows_of o k) ≡ true) o.channels
  pub others : HasNoOthers o

-- no rows
abbrev pub no_rows : OpenRows
no_rows = no_open_channels

-- the rows of each channel are the same, and the channels
pub record IsSame (before after : OpenRows) : Type 0 where
  pub rows : (k : ℕ) → rows_of after k ≡ rows_of before k
  pub channels : after.channels ≡ before.channels

-- a channel that has rows is among the channels already
abbrev pub with_channel : List Item → ℕ → List ℕ → List ℕ
with_channel [] k channels = insert_key nat_cmp channels k
with_channel (item ∷ items) k channels = channels

-- a channel has one more row, after the last gap of all channels
pub record HasMore (gap channel : ℕ) (item : Item) (before after : OpenRows) : Type 0 where
  pub row : rows_of after channel ≡ with_gap gap (rows_of before channel) ++ item ∷ []
  pub others : (k : ℕ) → k ≢ channel → rows_of after k ≡ rows_of before k
  pub channels : after.channels ≡ with_channel (rows_of before channel) channel before.channels

-- the first channel was removed with its rows
pub record IsTakenOut (channel : ℕ) (taken : List Item) (before after : OpenRows) : Type 0 where
  pub channels : before.channels ≡ channel ∷ after.channels
  pub once : AllByRecursion (λ k. k ≢ channel) after.channels
  pub items : taken ≡ rows_of before channel
  pub emptied : rows_of after channel ≡ []
  pub others : (k : ℕ) → k ≢ channel → rows_of after k ≡ rows_of before k

-- the rows of a channel were removed, which has some; it stays listed
pub record AreOut (channel : ℕ) (taken : List Item) (before after : OpenRows) : Type 0 where
  pub rows : taken ≡ rows_of before channel
  pub some : has_some taken ≡ true
  pub others : (k : ℕ) → k ≢ channel → rows_of after k ≡ rows_of before k
  pub channels : after.channels ≡ before.channels
  pub room : channel < length after.open_channels
