-- Numbers in headers, the high octet first, and parts of a packet.
use Rattle.std.specs.Prelude.{ℕ, ◌+◌, ◌-◌, List, [], ◌∷◌, drop, take, slice_index}
use Rattle.std.specs.Int.{w16, w32, from_be_bytes}
use Rattle.capture_model.specs.Views.{Payload}

-- the numbers of two and of four octets at a place
unfoldable pub two : ℕ → List ℕ → ℕ
two at xs = from_be_bytes w16 (slice_index xs at ∷ slice_index xs (at + 1) ∷ [])

unfoldable pub four : ℕ → List ℕ → ℕ
four at xs = from_be_bytes w32 (slice_index xs at ∷ slice_index xs (at + 1) ∷ slice_index xs (at + 2) ∷ slice_index xs (at + 3) ∷ [])

-- what comes after some octets
abbrev pub after : ℕ → Payload → Payload
after n p = record { octets = drop n p.octets; length = p.length - n }

-- a packet of this length, as far as it was kept
abbrev pub within : ℕ → List ℕ → Payload
within n xs = record { octets = take n xs; length = n }
