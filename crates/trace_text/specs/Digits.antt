-- Hex digits, and two of them as an octet (profile).
use Rattle.std.specs.Prelude.{◌≡◌, ◌⊎◌, ◌<◌, ◌≤◌, ℕ, ◌+◌, ◌*◌, List, [], ◌∷◌, ◌++◌, length, slice_index, drop, take, Option, Some, None}
use Rattle.std.specs.List.{AllPass}
use Rattle.std.specs.Option.{option_and_then}
use Rattle.hex.specs.Hex.{hex_digit_value, is_hex_digit}

-- two half octets as an octet
abbrev pub octet_in : Option ℕ → Option ℕ → Option ℕ
octet_in high low = option_and_then (λ h. option_and_then (λ l. Some (h * 16 + l)) low) high

-- the octet that two digits write
abbrev pub octet_of : ℕ → ℕ → Option ℕ
octet_of high low = octet_in (hex_digit_value high) (hex_digit_value low)

-- the octets that pairs of digits write
abbrev pub AreOctets : List ℕ → List ℕ → Type 0
AreOctets [] [] = Unit {0}
AreOctets (high ∷ low ∷ digits) (octet ∷ octets) = (octet_of high low ≡ Some octet) × AreOctets digits octets
AreOctets _ _ = ⊥

-- the value of a digit, or a byte of 16 and more for another one
abbrev pub IsDigitValue : ℕ → ℕ → Type 0
IsDigitValue digit value = ((value < 16) × (hex_digit_value digit ≡ Some value)) ⊎ ((15 < value) × (value < 256) × (hex_digit_value digit ≡ None))

-- each of some bytes has its value
abbrev pub AreDigitValues : List ℕ → List ℕ → Type 0
AreDigitValues bytes values = (length values ≡ length bytes) × ((i : ℕ) → i < length bytes → IsDigitValue (slice_index bytes i) (slice_index values i))

-- the values of the first 32 bytes of a text, as if zeros followed it
abbrev pub HasValues : List ℕ → List ℕ → Type 0
HasValues text values = (length values ≡ 32) × ((i : ℕ) → i < 32 → IsDigitValue (slice_index text i) (slice_index values i))

-- a text begins with digits that write these octets, and an LF after them
pub record BeginsDigits (text octets rest : List ℕ) : Type 0 where
  pub digits : List ℕ
  pub whole : text ≡ digits ++ 10 ∷ rest
  pub octets_are : AreOctets digits octets

-- a text begins with digits that write this many octets, at least three and no more than a row may have, and an LF after them
pub record BeginsOctets (text : List ℕ) (size : ℕ) (rest : List ℕ) : Type 0 where
  pub octets : List ℕ
  pub digits : BeginsDigits text octets rest
  pub count : length octets ≡ size
  pub some : 3 ≤ size
  pub few : size ≤ 4200

-- the digits before the rest of a text were converted: the octets are those that they write, up to the first other byte
pub record HasDecoded (text octets rest : List ℕ) : Type 0 where
  pub left : rest ≡ drop (2 * length octets) text
  pub octets_are : (m : ℕ) → m ≤ length octets → 2 * m ≤ length text → AllPass is_hex_digit (take (2 * m) text) → AreOctets (take (2 * m) text) (take m octets)
