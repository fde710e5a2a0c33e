-- What a TCP segment of other ports than that of XOT shows of them.
use Rattle.std.specs.Prelude.{ℕ, zero, suc, ◌*◌, ◌+◌, ◌/◌, ◌%◌, ◌==◌, ◌&&◌, ◌||◌, nat_le, max, Bool, List, [], ◌∷◌, length, take, drop, Option, None, Some, is_some, if◌then◌else◌}
use Rattle.ip_segments.specs.Segments.{Segment}
use Rattle.capture_report.specs.declared.port_sight.PortPair.{PortPair}
use Rattle.capture_report.specs.declared.port_sight.PortSight.{PortSight}
use Rattle.capture_report.specs.declared.port_sight.PortSight.TheVariants.{Nothing, Server, Xot}

-- ---- octets that look like XOT

-- a packet of XOT and the octets after it: version 0, and 3 to 4,200 octets that are all there
abbrev pub split_packet : (size : ℕ) → List ℕ → Option (List ℕ × List ℕ)
split_packet n xs = if nat_le 3 n && (nat_le n 4200 && nat_le n (length xs)) then Some (take n xs, drop n xs) else None

abbrev pub first_packet : List ℕ → Option (List ℕ × List ℕ)
first_packet (first ∷ second ∷ high ∷ low ∷ xs) = if first == 0 && second == 0 then split_packet (high * 256 + low) xs else None
first_packet xs = None

-- the general format identifier is that of modulo 8 or 128
abbrev pub is_format : ℕ → Bool
is_format x = x / 16 % 4 == 1 || x / 16 % 4 == 2

-- a packet that sets up or clears a call counts three times: call request, call accepted, clear request and its confirmation
abbrev pub type_weight : ℕ → ℕ
type_weight x = if x == 0x0B || (x == 0x0F || (x == 0x13 || x == 0x17)) then 3 else 1

-- what is no packet of X.25 has no weight
abbrev pub packet_weight : List ℕ → ℕ
packet_weight (format ∷ channel ∷ type ∷ xs) = if is_format format then type_weight type else 0
packet_weight xs = 0

abbrev pub weight_with : (found : ℕ → List ℕ → ℕ) → (weight : ℕ) → (packet : ℕ) → List ℕ → ℕ
weight_with on n zero xs = 0
weight_with on n (suc m) xs = on (max n (suc m)) xs

abbrev pub weight_after : (ℕ → List ℕ → ℕ) → (weight : ℕ) → Option (List ℕ × List ℕ) → ℕ
weight_after on n None = 0
weight_after on n (Some p) = weight_with on n (packet_weight p.0) p.1

-- the weight of octets that are whole packets of XOT is the greatest of theirs; other octets have none. A packet has octets, so
-- their number bounds the packets
unfoldable pub weight_from : (bound : ℕ) → (weight : ℕ) → List ℕ → ℕ
weight_from zero n xs = 0
weight_from (suc b) n [] = n
weight_from (suc b) n (x ∷ xs) = weight_after (weight_from b) n (first_packet (x ∷ xs))

abbrev pub weight : List ℕ → ℕ
weight xs = weight_from (length xs) 0 xs

-- ---- a segment

-- two ports, the lower one first
abbrev pub pair_of : ℕ → ℕ → PortPair
pair_of n m = if nat_le n m then record { low = n; high = m } else record { low = m; high = n }

abbrev pub xot_sight : (weight : ℕ) → PortPair → PortSight
xot_sight zero p = Nothing
xot_sight (suc n) p = Xot p (suc n)

-- a SYN shows the port to which a connection is opened: its target, or its source if it is an answer
abbrev pub port_sight : Segment → PortSight
port_sight s = if s.is_syn then Server (if is_some s.acknowledged then s.source else s.target) else xot_sight (weight s.payload.octets) (pair_of s.source s.target)

abbrev pub has_port : (port : ℕ) → PortPair → Bool
has_port port p = p.low == port || p.high == port
