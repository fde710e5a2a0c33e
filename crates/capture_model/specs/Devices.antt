-- The X.25 device of Linux: an octet, and then the packet where it is 0.
use Rattle.std.specs.Prelude.{ℕ, ◌-◌, ◌==◌, ◌||◌, List, [], ◌∷◌, Option, Some, None, if◌then◌else◌}
use Rattle.capture_model.specs.declared.reason.Reason.{Reason}
use Rattle.capture_model.specs.declared.reason.Reason.TheVariants.{DeviceWord}
use Rattle.capture_model.specs.Views.{Payload}

-- the word of a device that carries no packet
abbrev pub device_word : List ℕ → Option Reason
device_word [] = None
device_word (x ∷ xs) = if x == 1 || (x == 2 || x == 3) then Some (DeviceWord x) else None

abbrev pub device_octets : List ℕ → (length : ℕ) → Payload
device_octets [] n = record { octets = []; length = n }
device_octets (x ∷ xs) n = if x == 0 then record { octets = xs; length = n - 1 } else record { octets = x ∷ xs; length = n }

abbrev pub device_packet : Payload → Payload
device_packet p = device_octets p.octets p.length
