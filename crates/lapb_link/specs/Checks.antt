-- The frame check sequence (X.25 clauses 2.2.2 and 2.2.7).
use Rattle.std.specs.Prelude.{ℕ, zero, suc, ◌+◌, ◌-◌, ◌/◌, ◌%◌, ◌==◌, ◌&&◌, nat_le, List, [], ◌∷◌, take, Option, Some, None, if◌then◌else◌}
use Rattle.std.specs.Option.{option_map}
use Rattle.std.specs.Int.Bits.{bit_xor}

-- a step of the division by x^16 + x^12 + x^5 + 1, low bit first, and some of them
abbrev pub step : ℕ → ℕ
step r = if r % 2 == 1 then bit_xor (r / 2) 0x8408 else r / 2

abbrev pub steps : ℕ → ℕ → ℕ
steps zero r = r
steps (suc k) r = steps k (step r)

-- the rest after four bits more, which the low bits of a number are
unfoldable pub divided : (rest bits : ℕ) → ℕ
divided rest bits = bit_xor (rest / 16) (steps 4 (bit_xor rest bits % 16))

abbrev pub after_octet : (rest octet : ℕ) → ℕ
after_octet rest octet = divided (divided rest octet) (octet / 16)

-- the octets after the flags at the front
abbrev pub unflagged : List ℕ → List ℕ
unflagged [] = []
unflagged (x ∷ xs) = if x == 0x7E then unflagged xs else x ∷ xs

-- the end of the longest frame, at the front of octets, that has its right check sequence and only flags after it
abbrev pub end_after : (rest at octet : ℕ) → Option ℕ → Option ℕ
end_after rest at octet end = if rest == 0xF0B8 && nat_le 3 at then Some (at + 1) else if octet == 0x7E then end else None

abbrev pub end_from : (rest at : ℕ) → Option ℕ → List ℕ → Option ℕ
end_from rest at end [] = end
end_from rest at end (x ∷ xs) = end_from (after_octet rest x) (at + 1) (end_after (after_octet rest x) at x end) xs

abbrev pub checked_end : List ℕ → Option ℕ
checked_end xs = end_from 0xFFFF 0 None xs

abbrev pub unframed : List ℕ → Option (List ℕ)
unframed xs = option_map (λ end. take (end - 2) (unflagged xs)) (checked_end (unflagged xs))
