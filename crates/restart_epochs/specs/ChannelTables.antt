-- A value for each logical channel of the open epoch that has one.
use Rattle.std.specs.Prelude.{◌≡◌, ◌≢◌, ℕ, zero, suc, ◌<◌, List, [], ◌∷◌, Option, Some, None, is_some, true, length}
use Rattle.std.specs.BTreeSet.{insert_key}
use Rattle.std.specs.Ordering.{nat_cmp}
use Rattle.std.specs.List.{AllByRecursion}

-- what is in the place of a channel; nothing where there is none
abbrev pub open_channel_at : {T : Type 0} → List (Option T) → ℕ → Option T
open_channel_at [] k = None
open_channel_at (open_channel ∷ open_channels) zero = open_channel
open_channel_at (open_channel ∷ open_channels) (suc k) = open_channel_at open_channels k

-- a place for each channel up to the highest that was listed, and the channels that are listed, in order
pub record ChannelTables (T : Type 0) : Type 0 where
  pub open_channels : List (Option T)
  pub channels : List ℕ

-- the value of a channel, if it has one
abbrev pub value_at : {T : Type 0} → ChannelTables T → ℕ → Option T
value_at o k = open_channel_at o.open_channels k

-- no places
abbrev pub no_open_channels : {T : Type 0} → ChannelTables T
no_open_channels = record { open_channels = []; channels = [] }

-- no channel has a value, and none is listed
pub record IsEmpty {T : Type 0} (o : ChannelTables T) : Type 0 where
  pub channels : o.channels ≡ []
  pub values : (k : ℕ) → value_at o k ≡ None

-- the values are the same, and the channels that are listed
pub record IsAlike {T : Type 0} (before after : ChannelTables T) : Type 0 where
  pub channels : after.channels ≡ before.channels
  pub values : (k : ℕ) → value_at after k ≡ value_at before k

-- a channel was listed; the values are the same
pub record HasListed {T : Type 0} (channel : ℕ) (before after : ChannelTables T) : Type 0 where
  pub channels : after.channels ≡ insert_key nat_cmp before.channels channel
  pub values : (k : ℕ) → value_at after k ≡ value_at before k
  pub room : channel < length after.open_channels

-- the value of a channel was removed, if it had one; it stays listed
pub record HasTaken {T : Type 0} (channel : ℕ) (taken : Option T) (before after : ChannelTables T) : Type 0 where
  pub value : taken ≡ value_at before channel
  pub emptied : value_at after channel ≡ None
  pub others : (k : ℕ) → k ≢ channel → value_at after k ≡ value_at before k
  pub channels : after.channels ≡ before.channels
  pub room : is_some taken ≡ true → channel < length after.open_channels

-- a channel has this value now
pub record HasPut {T : Type 0} (channel : ℕ) (put : T) (before after : ChannelTables T) : Type 0 where
  pub value : value_at after channel ≡ Some put
  pub others : (k : ℕ) → k ≢ channel → value_at after k ≡ value_at before k
  pub channels : after.channels ≡ before.channels

-- the first channel that was listed was removed with its value
pub record HasPopped {T : Type 0} (channel : ℕ) (taken : Option T) (before after : ChannelTables T) : Type 0 where
  pub channels : before.channels ≡ channel ∷ after.channels
  pub once : AllByRecursion (λ k. k ≢ channel) after.channels
  pub value : taken ≡ value_at before channel
  pub emptied : value_at after channel ≡ None
  pub others : (k : ℕ) → k ≢ channel → value_at after k ≡ value_at before k
  pub room : is_some taken ≡ true → channel < length after.open_channels
