-- What a capture has, in its order.
use Rattle.std.specs.Prelude.{◌≡◌, ℕ, List, [], ◌++◌, Option, None, Some}
use Rattle.std.specs.Option.{option_map, option_to_list}
use Rattle.capture_model.specs.Frames.{Frame}
use Rattle.capture_files.specs.declared.entry.Dropped.{Dropped}
use Rattle.capture_files.specs.declared.entry.Entry.{Entry}
use Rattle.capture_files.specs.Entries.{frame_at}

-- a frame, and frames that are missing before it
pub record Record : Type 0 where
  pub dropped : Option Dropped
  pub frame : Option Frame

-- that of a frame alone
abbrev pub frame_record : Frame → Record
frame_record f = record { dropped = None; frame = Some f }

-- that of an entry of these octets
abbrev pub record_of : List ℕ → Entry → Record
record_of octets e = record { dropped = e.dropped; frame = option_map (λ h. frame_at h octets) e.frame }

abbrev pub record_in : List ℕ → Option Entry → Option Record
record_in octets e = option_map (record_of octets) e

-- where it is shown what a capture has left, this came next, and none only at the end
pub record Follows (before after : Option (List Record)) (next : Option Record) : Type 0 where
  pub shown : (records : List Record) → before ≡ Some records → (rest : List Record) × (after ≡ Some rest) × (records ≡ option_to_list next ++ rest)
  pub end : (records : List Record) → before ≡ Some records → next ≡ None → records ≡ []
