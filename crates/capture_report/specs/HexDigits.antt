-- The hex digits of half octets.
use Rattle.std.specs.Prelude.{ℕ, nat_lt, Bool, slice_index}
use Rattle.hex.specs.Hex.{upper_digits}

abbrev pub is_half : ℕ → Bool
is_half h = nat_lt h 16

abbrev pub half_digit : ℕ → ℕ
half_digit h = slice_index upper_digits h
