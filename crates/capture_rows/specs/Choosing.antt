-- Which frames of a capture are read, and how.
use Rattle.std.specs.Prelude.{ℕ, ◌==◌, Bool, true, false, Option, Some, None}
use Rattle.std.specs.Option.{option_or}
use Rattle.capture_model.specs.Kinds.{kind_of_link}
use Rattle.capture_model.specs.declared.kind.LinkKind.{LinkKind}
use Rattle.capture_rows.specs.declared.choices.Carrier.{Carrier}
use Rattle.capture_rows.specs.declared.choices.Carrier.TheVariants as carrier
use Rattle.capture_rows.specs.declared.choices.Choices.{Choices}

-- the link header of a link type
abbrev pub kind_of : Choices → (link : ℕ) → Option LinkKind
kind_of c link = option_or (kind_of_link link) c.unknown

abbrev pub is_wanted : Carrier → Carrier → Bool
is_wanted carrier.Lapb carrier.Lapb = true
is_wanted carrier.Packet carrier.Packet = true
is_wanted a b = false

-- what was not chosen among is read
abbrev pub is_chosen_by : Option Carrier → Carrier → Bool
is_chosen_by None c = true
is_chosen_by (Some a) c = is_wanted a c

abbrev pub is_chosen : Choices → Carrier → Bool
is_chosen c carrier = is_chosen_by c.carrier carrier

abbrev pub is_on_by : Option ℕ → ℕ → Bool
is_on_by None n = true
is_on_by (Some a) n = a == n

abbrev pub is_on : Choices → (interface : ℕ) → Bool
is_on c n = is_on_by c.interface n
