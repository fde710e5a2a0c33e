-- What the octets of a row say (X.25 clause 5).
use Rattle.std.specs.Prelude.{ℕ, Bool, ◌==◌, ◌&&◌, List, [], ◌∷◌, length, take, map, Option, Some, None, if◌then◌else◌}
use Rattle.line_model.specs.declared.interface.Interface.{Interface}
use Rattle.line_model.specs.declared.state.Side.TheVariants.{T}
use Rattle.line_model.specs.declared.packet.DataHeader.{DataHeader}
use Rattle.line_model.specs.declared.packet.Packet.{Packet}
use Rattle.line_model.specs.declared.packet.Packet as packet
use Rattle.line_model.specs.declared.packet.PacketKind as kind
use Rattle.line_model.specs.basics.Octets.{octet, bits}
use Rattle.line_model.specs.basics.Records.{Row, Item, ReadRow}
use Rattle.line_model.specs.packets.Classes.{packet_of}

-- data with Q 0, by bit 1 of octet 3 and bit 8 of octet 1: of the user data only the length matters (5.3)
abbrev pub is_unqualified : List ℕ → Bool
is_unqualified xs = bits 1 1 (octet 3 xs) == 0 && bits 8 8 (octet 1 xs) == 0

-- the octets that are kept in addition to the packet and the length
abbrev pub said_octets : List ℕ → List ℕ
said_octets xs = if is_unqualified xs then [] else xs

-- what a gap of a channel, or of all, has in place of the packet
abbrev pub gap_packet : Option ℕ → Packet
gap_packet None = packet.TheVariants.GapOfAll
gap_packet (Some c) = packet.TheVariants.Channel c kind.TheVariants.Gap

-- the packet of a row, or its gap
abbrev pub packet_or_gap : Option (Option ℕ) → Packet → Packet
packet_or_gap None p = p
packet_or_gap (Some gap) p = gap_packet gap

-- what a row says
abbrev pub item_of : Interface → Row → Item
item_of i r = record {
  number = r.number;
  side = r.side;
  packet = packet_or_gap r.gap (packet_of i r.octets);
  length = length r.octets;
  octets = said_octets r.octets;
}

-- what rows say
abbrev pub items_of : Interface → List Row → List Item
items_of i rs = map (item_of i) rs

-- what a gap of all channels says, by its number
abbrev pub gap_item : ℕ → Item
gap_item n = record { number = n; side = T; packet = packet.TheVariants.GapOfAll; length = 0; octets = [] }

-- the same, if there is a gap
abbrev pub gap_items : Option ℕ → List Item
gap_items None = []
gap_items (Some n) = gap_item n ∷ []

-- the octets of a row that are read
abbrev pub read_octets : List ℕ → List ℕ
read_octets xs = if is_unqualified xs then take 4 xs else xs

-- a row as it is read
abbrev pub read_row : Row → ReadRow
read_row r = record {
  number = r.number;
  side = r.side;
  length = length r.octets;
  octets = read_octets r.octets;
  gap = r.gap;
}

-- what a row says, as it was read
abbrev pub item_read : Interface → ReadRow → Item
item_read i r = record {
  number = r.number;
  side = r.side;
  packet = packet_or_gap r.gap (packet_of i r.octets);
  length = r.length;
  octets = said_octets r.octets;
}

-- the header of a data packet, none where it is cut
abbrev pub header_in : Packet → Option DataHeader
header_in (packet.TheVariants.Channel c (kind.TheVariants.Data h)) = h
header_in p = None

-- P(R) of RR and RNR, none where the header is cut
abbrev pub receive_in : Packet → Option ℕ
receive_in (packet.TheVariants.Channel c (kind.TheVariants.Rr n)) = n
receive_in (packet.TheVariants.Channel c (kind.TheVariants.Rnr n)) = n
receive_in p = None

-- the logical channel of a packet, 0 where the channel is not assigned
abbrev pub packet_channel : Packet → ℕ
packet_channel (packet.TheVariants.Channel c k) = c
packet_channel p = 0

-- the gap that a row is, in place of a packet (profile): of a channel, or of all
abbrev pub gap_of : Packet → Option (Option ℕ)
gap_of (packet.TheVariants.Channel c kind.TheVariants.Gap) = Some (Some c)
gap_of packet.TheVariants.GapOfAll = Some None
gap_of p = None
