-- Sequence numbers (RFC 9293 3.4), and the places of octets. A place is a number without a bound: its sequence number is the rest
-- of a division by 2^32.
use Rattle.std.specs.Prelude.{ℕ, ◌+◌, ◌-◌, ◌%◌, ◌&&◌, nat_lt, nat_le, Bool, Option, Some, None, if◌then◌else◌}

-- how many sequence numbers there are
abbrev pub circle : ℕ
circle = 0x100000000

-- a direction begins a circle above 0, so that there are places before it
abbrev pub first_place : ℕ → ℕ
first_place n = circle + n

abbrev pub next_number : ℕ → ℕ
next_number n = (n + 1) % circle

abbrev pub number_at : (place : ℕ) → ℕ
number_at p = p % circle

-- how many numbers lead from one to another, and 0 where it is more than half of the circle
abbrev pub ahead : (from to : ℕ) → ℕ
ahead from to = (to + circle - from) % circle

abbrev pub forward : (from to : ℕ) → ℕ
forward from to = if nat_lt (ahead from to) 0x80000000 then ahead from to else 0

abbrev pub is_after : (from to : ℕ) → Bool
is_after from to = nat_lt 0 (forward from to)

-- the place with a number that is nearest to the next one
abbrev pub place_near : (next number : ℕ) → ℕ
place_near next n = (next + (n + 0x180000000 - next % circle) % circle) - 0x80000000

-- how many octets of the other direction come before a segment that acknowledges a number; one more than 2^24 ahead is damaged
abbrev pub awaited_from : (next number : ℕ) → ℕ
awaited_from next n = if nat_lt next 0x4000000000000000 && nat_le (ahead (number_at next) n) 0x1000000 then ahead (number_at next) n else 0

abbrev pub awaited : (next acknowledged : Option ℕ) → ℕ
awaited (Some next) (Some n) = awaited_from next n
awaited (Some next) None = 0
awaited None a = 0

-- how many numbers a FIN has
abbrev pub fin_numbers : (is_fin : Bool) → ℕ
fin_numbers b = if b then 1 else 0
