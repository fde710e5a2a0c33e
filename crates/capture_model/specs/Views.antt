-- What contracts see of what a frame carries.
use Rattle.std.specs.Prelude.{ℕ, List}
use Rattle.capture_model.specs.declared.carried.Payload as declared
use Rattle.capture_model.specs.declared.carried.Carried as declared_carried

-- the octets after a header that were kept, and how many there were on the line
pub record Payload : Type 0 where
  pub octets : List ℕ
  pub length : ℕ

pub data Carried : Type 0 where
  Internet : Payload → Carried
  Lapb : Payload → Carried
  CheckedLapb : Payload → Carried
  Packet : Payload → Carried
  Device : Payload → Carried
  Other : Carried
  Cut : Carried
  Unknown : Carried

abbrev pub payload_view : declared.Payload → Payload
payload_view p = record { octets = p.octets.now; length = p.length }

abbrev pub carried_view : declared_carried.Carried → Carried
carried_view (declared_carried.TheVariants.Internet p) = Internet (payload_view p)
carried_view (declared_carried.TheVariants.Lapb p) = Lapb (payload_view p)
carried_view (declared_carried.TheVariants.CheckedLapb p) = CheckedLapb (payload_view p)
carried_view (declared_carried.TheVariants.Packet p) = Packet (payload_view p)
carried_view (declared_carried.TheVariants.Device p) = Device (payload_view p)
carried_view declared_carried.TheVariants.Other = Other
carried_view declared_carried.TheVariants.Cut = Cut
carried_view declared_carried.TheVariants.Unknown = Unknown
