-- The message that a packet carries the end of, and the room for its events.
use Rattle.std.specs.Prelude.{ℕ, Bool, true, false, List, Option, Some, None}

-- the message of a sequence that is one, or none
abbrev pub carried : (carries_message : Bool) → List ℕ → Option (List ℕ)
carried true m = Some m
carried false m = None

-- a finding, the data, and a setting for each pair of a message; or the data alone
abbrev pub room_for : (carries_message : Bool) → ℕ
room_for true = 514
room_for false = 1
