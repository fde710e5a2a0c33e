-- What is counted of a call, as its events come.
use Rattle.std.specs.Prelude.{◌≡◌, ℕ, ◌≤◌, ◌<◌, ◌+◌, ◌-◌, ◌^◌, List, [], ◌∷◌, filter, find, map, sum, length, slice_index_or, Option, Some, None, option_map, unwrap_or, if◌then◌else◌}
use Rattle.line_model.specs.declared.state.Side.{Side}
use Rattle.line_model.specs.declared.state.Side.TheVariants.{T, N}
use Rattle.line_model.specs.declared.event.Entry.{Entry}
use Rattle.line_model.specs.declared.event.Entry.TheVariants.{Unknown}
use Rattle.line_model.specs.declared.event.Event.{Event}
use Rattle.line_model.specs.declared.call.SettingRecord.{SettingRecord}
use Rattle.line_model.specs.observer.Calls.{is_up, lengths_from, all_lengths, segments_of, entry_said, entry_of, is_known}
use Rattle.call_accounts.specs.declared.pad_table.PadTable.{PadTable}
use Rattle.call_accounts.specs.declared.counts.CallCounts.{CallCounts}

-- the entry of a parameter from 1 to 22
abbrev pub entry_at : PadTable → ℕ → Entry
entry_at t n = slice_index_or (unwrap_or t.entries []) (n - 1) Unknown

-- the settings that a table knows of some parameters
abbrev pub settings_in : Side → PadTable → List ℕ → List SettingRecord
settings_in pad t ns = filter (λ s. is_known s.entry) (map (λ n. record { pad = pad; parameter = n; entry = entry_at t n }) ns)

-- a table has the last word on each parameter
abbrev pub HasSettings : Side → PadTable → List Event → Type 0
HasSettings pad t own = (n : ℕ) → 1 ≤ n → n ≤ 22 → entry_at t n ≡ entry_of pad n own

-- counts are those of the events of a call
pub record Counts (c : CallCounts) (own : List Event) : Type 0 where
  pub up : c.up ≡ option_map (λ e. e.packet) (find is_up own)
  pub data_t : c.data_t ≡ length (lengths_from T own)
  pub oct_t : c.oct_t ≡ sum (lengths_from T own)
  pub data_n : c.data_n ≡ length (lengths_from N own)
  pub oct_n : c.oct_n ≡ sum (lengths_from N own)
  pub segments : c.segments ≡ segments_of (all_lengths own)
  pub settings_t : HasSettings T c.settings_t own
  pub settings_n : HasSettings N c.settings_n own

-- a sum with a number added, where it fits
abbrev pub Grows : (old by new : ℕ) → Type 0
Grows old by new = old + by < 2 ^ 64 → new ≡ old + by

-- the packet with which the call is up: the first
abbrev pub first_up : Option ℕ → Event → Option ℕ
first_up (Some n) e = Some n
first_up None e = if is_up e then Some e.packet else None

-- counts after one more event
pub record Adds (old new : CallCounts) (e : Event) : Type 0 where
  pub up : new.up ≡ first_up old.up e
  pub data_t : Grows old.data_t (length (lengths_from T (e ∷ []))) new.data_t
  pub oct_t : Grows old.oct_t (sum (lengths_from T (e ∷ []))) new.oct_t
  pub data_n : Grows old.data_n (length (lengths_from N (e ∷ []))) new.data_n
  pub oct_n : Grows old.oct_n (sum (lengths_from N (e ∷ []))) new.oct_n
  pub segments : Grows old.segments (segments_of (all_lengths (e ∷ []))) new.segments
  pub settings_t : (n : ℕ) → 1 ≤ n → n ≤ 22 → entry_at new.settings_t n ≡ unwrap_or (entry_said T n e) (entry_at old.settings_t n)
  pub settings_n : (n : ℕ) → 1 ≤ n → n ≤ 22 → entry_at new.settings_n n ≡ unwrap_or (entry_said N n e) (entry_at old.settings_n n)

-- these events can be counted
pub record IsCountable (es : List Event) : Type 0 where
  pub packets : length (all_lengths es) ≤ 2 ^ 63
  pub octets : sum (all_lengths es) ≤ 2 ^ 63
