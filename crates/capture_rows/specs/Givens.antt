-- What a frame gives.
use Rattle.std.specs.Prelude.{ℕ, ◌+◌, ◌*◌, ◌%◌, ◌==◌, nat_lt, Bool, List, ◌∷◌, length, Option, Some, None, if◌then◌else◌}
use Rattle.line_model.specs.declared.state.Side.{Side}
use Rattle.capture_model.specs.declared.reason.Reason.{Reason}
use Rattle.capture_model.specs.declared.reason.Reason.TheVariants as reason
use Rattle.lapb_link.specs.declared.control.Unnumbered.{Unnumbered}
use Rattle.capture_rows.specs.declared.given.Given as declared

-- one of these, with the octets of its packet
pub data Given : Type 0 where
  Packet : Side → List ℕ → Given
  Gap : (channel : Option ℕ) → Reason → Given
  Held : Side → List ℕ → (cut : Bool) → Given
  OfLink : Unnumbered → Given
  LeftOut : Reason → Given

abbrev pub given_view : declared.Given → Given
given_view (declared.TheVariants.Packet s p) = Packet s p.now
given_view (declared.TheVariants.Gap c r) = Gap c r
given_view (declared.TheVariants.Held s p c) = Held s p.now c
given_view (declared.TheVariants.Unnumbered k) = OfLink k
given_view (declared.TheVariants.LeftOut r) = LeftOut r

-- the channel that octets name; 0 is none
abbrev pub some_channel : ℕ → Option ℕ
some_channel n = if n == 0 then None else Some n

abbrev pub channel_in : List ℕ → Option ℕ
channel_in (a ∷ b ∷ xs) = some_channel (a % 16 * 256 + b)
channel_in xs = None

-- the gap of a packet that is left out
abbrev pub lost : List ℕ → Reason → Given
lost octets r = Gap (channel_in octets) r

-- a packet that was recorded whole, and has at most 4,200 octets
abbrev pub packet_or_gap : Side → List ℕ → (cut : Bool) → Given
packet_or_gap s octets cut = if cut then lost octets reason.CutPacket
    else if nat_lt 4200 (length octets) then lost octets reason.LongPacket
    else Packet s octets
