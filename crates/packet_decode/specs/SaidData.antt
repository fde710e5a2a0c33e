-- What a row of a data packet says of its octets.
use Rattle.std.specs.Prelude.{◌≡◌, ◌≤◌, true, false, [], length}
use Rattle.line_model.specs.basics.Records.{Item}
use Rattle.line_model.specs.declared.interface.Interface.{Interface}
use Rattle.line_model.specs.declared.packet.DataHeader.{DataHeader}
use Rattle.line_model.specs.packets.Classes.{header_length}

-- its header is whole; with Q 0 no octets are kept, with Q 1 all
pub record IsSaidData (i : Interface) (item : Item) (h : DataHeader) : Type 0 where
  pub whole : header_length i ≤ item.length
  pub silent : h.qualified ≡ false → item.octets ≡ []
  pub full : h.qualified ≡ true → length item.octets ≡ item.length
