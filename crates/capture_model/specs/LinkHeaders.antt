-- The octets after each link header.
use Rattle.std.specs.Prelude.{ℕ, ◌+◌, ◌==◌, ◌&&◌, ◌||◌, nat_le, nat_lt, min, Bool, false, List, [], ◌∷◌, length, drop, take, slice_index, Some, None, if◌then◌else◌}
use Rattle.std.specs.Int.{w32, from_be_bytes}
use Rattle.capture_model.specs.Frames.{Frame}
use Rattle.capture_model.specs.declared.frame.Direction.{Direction}
use Rattle.capture_model.specs.declared.frame.Direction.TheVariants as direction
use Rattle.capture_model.specs.Views.{Payload, Carried, Internet, Lapb, CheckedLapb, Packet, Other, Cut}
use Rattle.capture_model.specs.Ethernet.{after, by_cooked, by_type, two_octets}
use Rattle.capture_model.specs.HeaderViews.{LinkHeader}
use Rattle.capture_model.specs.declared.kind.LinkKind.{LinkKind}
use Rattle.capture_model.specs.declared.kind.LinkKind.TheVariants as kind

abbrev pub plain : Direction → Carried → LinkHeader
plain d c = record { carried = c; direction = d; source = []; index = None }

-- two addresses of six octets, and an Ethernet type
abbrev pub ethernet : Direction → Payload → LinkHeader
ethernet d p = if nat_lt (length p.octets) 12 then plain d Cut
    else record { carried = by_type (after 12 p); direction = d; source = take 6 (drop 6 p.octets); index = None }

-- the direction by the packet type of a cooked header: 3 is a frame between other hosts
abbrev pub direction_of : ℕ → Direction
direction_of n = if n == 0 || (n == 1 || n == 2) then direction.Received else if n == 4 then direction.Sent else direction.Unknown

-- the protocol at a place
abbrev pub protocol_at : ℕ → List ℕ → ℕ
protocol_at at xs = two_octets (slice_index xs at) (slice_index xs (at + 1))

-- cooked, version 1: packet type 2, hardware type 2, length of the address 2, address 8, protocol 2
abbrev pub cooked_1 : Payload → LinkHeader
cooked_1 p = if nat_lt (length p.octets) 16 then plain direction.Unknown Cut
    else record {
      carried = by_cooked (protocol_at 14 p.octets) (after 16 p);
      direction = direction_of (slice_index p.octets 1);
      source = take (min (slice_index p.octets 5) 8) (drop 6 p.octets);
      index = None;
    }

-- cooked, version 2: protocol 2, none 2, index 4, hardware type 2, packet type 1, length of the address 1, address 8
abbrev pub index_of : List ℕ → ℕ
index_of xs = from_be_bytes w32 (slice_index xs 4 ∷ slice_index xs 5 ∷ slice_index xs 6 ∷ slice_index xs 7 ∷ [])

abbrev pub cooked_2 : Payload → LinkHeader
cooked_2 p = if nat_lt (length p.octets) 20 then plain direction.Unknown Cut
    else record {
      carried = by_cooked (protocol_at 0 p.octets) (after 20 p);
      direction = direction_of (slice_index p.octets 10);
      source = take (min (slice_index p.octets 11) 8) (drop 12 p.octets);
      index = Some (index_of p.octets);
    }

-- an octet of the direction, 0 for a received frame
abbrev pub directed_by : List ℕ → Carried → LinkHeader
directed_by [] c = plain direction.Unknown Cut
directed_by (x ∷ xs) c = plain (if x == 0 then direction.Received else direction.Sent) c

abbrev pub directed : Payload → Carried → LinkHeader
directed p c = directed_by p.octets c

-- PPP
abbrev pub by_ppp_of : List ℕ → Payload → Carried
by_ppp_of (a ∷ b ∷ xs) p = if two_octets a b == 0x0021 || two_octets a b == 0x0057 then Internet (after 2 p) else Other
by_ppp_of xs p = Cut

abbrev pub by_ppp : Payload → Carried
by_ppp p = by_ppp_of p.octets p

abbrev pub has_lapb_address : List ℕ → Bool
has_lapb_address [] = false
has_lapb_address (a ∷ xs) = a == 1 || a == 3

abbrev pub has_control : List ℕ → Bool
has_control (a ∷ b ∷ xs) = a == 0xFF && b == 3
has_control xs = false

abbrev pub ppp : Payload → Carried
ppp p = if has_lapb_address p.octets then Lapb p else if has_control p.octets then by_ppp (after 2 p) else by_ppp p

-- Cisco HDLC; other addresses than 0F and 8F mean LAPB
abbrev pub cisco : Payload → Carried
cisco p = if nat_lt (length p.octets) 2 then Cut
    else if nat_le 4 (length p.octets) && (slice_index p.octets 0 == 0x0F || slice_index p.octets 0 == 0x8F) then by_cooked (protocol_at 2 p.octets) (after 4 p)
    else Lapb p

-- what a frame carries by its link header
abbrev pub header_by : LinkKind → Direction → Payload → LinkHeader
header_by kind.Ethernet d p = ethernet d p
header_by kind.Cooked1 d p = cooked_1 p
header_by kind.Cooked2 d p = cooked_2 p
header_by kind.Internet d p = plain d (Internet p)
header_by kind.Loopback d p = plain d (Internet (after 4 p))
header_by kind.Ppp d p = plain d (ppp p)
header_by kind.Cisco d p = plain d (cisco p)
header_by kind.Lapb d p = plain d (Lapb p)
header_by kind.DirectedLapb d p = directed p (Lapb (after 1 p))
header_by kind.CheckedLapb d p = plain d (CheckedLapb p)
header_by kind.Packet d p = plain d (Packet p)
header_by kind.DirectedPacket d p = directed p (Packet (after 1 p))

abbrev pub header_of : LinkKind → Frame → LinkHeader
header_of k f = header_by k f.direction (record { octets = f.octets; length = f.length })
