-- A datagram in a carrier is a part of what carries it.
use Rattle.std.specs.Prelude.{◌≡◌, ℕ, drop}
use Rattle.capture_model.specs.Views.{Payload}

-- the octets after some
abbrev pub IsPart : Payload → Payload → Type 0
IsPart p q = (n : ℕ) × (q.octets ≡ drop n p.octets)
