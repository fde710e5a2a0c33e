-- The options of a block.
use Rattle.std.specs.Prelude.{ℕ, zero, suc, ◌+◌, ◌-◌, ◌*◌, ◌/◌, ◌%◌, ◌^◌, ◌&&◌, Bool, true, false, List, [], ◌∷◌, Option, None, Some, drop, length, min, nat_eq, nat_lt, take, if◌then◌else◌}
use Rattle.std.specs.Option.{option_or}
use Rattle.capture_model.specs.declared.frame.Direction.{Direction}
use Rattle.capture_model.specs.declared.frame.Direction.TheVariants.{Unknown, Received, Sent}
use Rattle.capture_files.specs.Numbers.{number, short_number}

-- an option: its code, and its value as far as it is there
pub record BlockOption : Type 0 where
  pub code : ℕ
  pub value : List ℕ

-- how many octets these are in whole words
abbrev pub padded : ℕ → ℕ
padded n = (n + 3) / 4 * 4

-- an option begins these octets; code 0 ends them
abbrev pub has_option : Bool → List ℕ → Bool
has_option big octets = if nat_lt (length octets) 4 then false else nat_lt 0 (short_number big octets)

abbrev pub value_size : Bool → List ℕ → ℕ
value_size big octets = short_number big (drop 2 octets)

abbrev pub first_option : Bool → List ℕ → BlockOption
first_option big octets = record { code = short_number big octets; value = take (value_size big octets) (drop 4 octets) }

abbrev pub option_size : Bool → List ℕ → ℕ
option_size big octets = 4 + padded (value_size big octets)

-- the options that these octets are, at most this many
abbrev pub options_within : (most : ℕ) → Bool → List ℕ → List BlockOption
options_within zero big octets = []
options_within (suc most) big octets = elim (has_option big octets) [
  | true ↦ first_option big octets ∷ options_within most big (drop (option_size big octets) octets)
  | false ↦ []
]

abbrev pub options_in : Bool → List ℕ → List BlockOption
options_in big octets = options_within (length octets) big octets

-- ---- values

abbrev pub value_if : (code : ℕ) → BlockOption → List ℕ
value_if code o = if nat_eq o.code code then o.value else []

abbrev pub or_value : List ℕ → List ℕ → List ℕ
or_value [] ys = ys
or_value (x ∷ xs) ys = x ∷ xs

-- the value of the last option of a code that has one; empty where none has
abbrev pub last_value : (code : ℕ) → List BlockOption → List ℕ
last_value code [] = []
last_value code (o ∷ os) = or_value (last_value code os) (value_if code o)

-- the number in a value of eight octets, else 0
abbrev pub count_of : Bool → List ℕ → ℕ
count_of big value = if nat_eq (length value) 8 then (if big then number big value * 4294967296 + number big (drop 4 value) else number big (drop 4 value) * 4294967296 + number big value) else 0

-- ---- what they say of a frame

-- the flags in an option of code 2 with four octets
abbrev pub flags_if : Bool → BlockOption → Option ℕ
flags_if big o = if nat_eq o.code 2 && nat_eq (length o.value) 4 then Some (number big o.value) else None

-- the first of them
abbrev pub flags_in : Bool → List BlockOption → Option ℕ
flags_in big [] = None
flags_in big (o ∷ os) = option_or (flags_if big o) (flags_in big os)

abbrev pub direction_by : (flags : Option ℕ) → Direction
direction_by None = Unknown
direction_by (Some flags) = if nat_eq (flags % 4) 1 then Received else (if nat_eq (flags % 4) 2 then Sent else Unknown)

-- the frames that an option of code 4 says were dropped
abbrev pub drops_if : Bool → BlockOption → ℕ
drops_if big o = if nat_eq o.code 4 then count_of big o.value else 0

abbrev pub drops_in : Bool → List BlockOption → ℕ
drops_in big [] = 0
drops_in big (o ∷ os) = drops_if big o + drops_in big os

-- all of them; no capture says more than fit
abbrev pub drop_count : Bool → List BlockOption → ℕ
drop_count big os = min (drops_in big os) (2 ^ 64 - 1)
