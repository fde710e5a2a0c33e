-- Numbers in the byte order of a file.
use Rattle.std.specs.Prelude.{ℕ, ◌+◌, ◌-◌, ◌^◌, Bool, List, min, take, if◌then◌else◌}
use Rattle.std.specs.Int.{w16, w32, from_be_bytes, from_le_bytes}

-- the number that the first four octets write
unfoldable pub number : (is_big : Bool) → List ℕ → ℕ
number is_big octets = if is_big then from_be_bytes w32 (take 4 octets) else from_le_bytes w32 (take 4 octets)

-- the number that the first two octets write
unfoldable pub short_number : (is_big : Bool) → List ℕ → ℕ
short_number is_big octets = if is_big then from_be_bytes w16 (take 2 octets) else from_le_bytes w16 (take 2 octets)

-- the number after one; no capture has so many frames that it stays the same
abbrev pub next_number : ℕ → ℕ
next_number n = min (n + 1) (2 ^ 64 - 1)
