-- The TCP ports, other than that of XOT, that look like it, and which of them are named.
use Rattle.std.specs.Prelude.{◌≡◌, ℕ, zero, suc, ◌+◌, ◌*◌, ◌-◌, ◌≤◌, ◌<◌, ◌==◌, nat_lt, not, slice_index_or, Bool, List, [], ◌∷◌, length, filter, Option, None, Some, if◌then◌else◌}
use Rattle.std.specs.BTreeMap.{insert_entry, is_at}
use Rattle.std.specs.BTreeSet.{insert_key}
use Rattle.std.specs.List.{list_any}
use Rattle.std.specs.Map.{lookup, set_value}
use Rattle.std.specs.Ordering.{nat_cmp}
use Rattle.capture_model.specs.Frames.{Frame}
use Rattle.capture_report.specs.Circuits.{next_number, reader_after}
use Rattle.capture_report.specs.PortSights.{has_port}
use Rattle.capture_report.specs.Reasons.{sum_up_to}
use Rattle.capture_report.specs.Records.{Record}
use Rattle.capture_report.specs.Segments.{XotReader, frame_use, new_reader}
use Rattle.capture_report.specs.contracts.port_sight.PortPairOrd.TheImpl.{ghosts}
use Rattle.capture_report.specs.declared.options.CaptureOptions.{CaptureOptions}
use Rattle.capture_report.specs.declared.other_ports.NamedPort.{NamedPort}
use Rattle.capture_report.specs.declared.other_ports.PortCount.{PortCount}
use Rattle.capture_report.specs.declared.port_sight.PortPair.{PortPair}
use Rattle.capture_report.specs.declared.port_sight.PortSight.{PortSight}
use Rattle.capture_report.specs.declared.port_sight.PortSight.TheVariants.{Nothing, Server, Xot}
use Rattle.capture_report.specs.declared.reasons.FrameUse.{FrameUse}
use Rattle.capture_report.specs.declared.reasons.FrameUse.TheVariants as becomes

-- ---- what segments show

-- what was counted between two ports each, and the ports to which connections were opened
pub record PortsSeen : Type 0 where
  pub pairs : List (PortPair × PortCount)
  pub servers : List ℕ

abbrev pub no_ports : PortsSeen
no_ports = record { pairs = []; servers = [] }

abbrev pub none_counted : PortCount
none_counted = record { weight = 0; segments = 0 }

abbrev pub segment_counted : (weight : ℕ) → PortCount → PortCount
segment_counted n c = record { weight = sum_up_to c.weight n; segments = next_number c.segments }

-- 10,000 pairs of ports are kept; those that come after them are not
abbrev pub pair_counted : Option PortCount → PortPair → (weight : ℕ) → PortsSeen → PortsSeen
pair_counted (Some c) p n s = record s { pairs = set_value (is_at (ghosts.cmp p)) s.pairs (segment_counted n c) }
pair_counted None p n s = if nat_lt (length s.pairs) 10000 then record s { pairs = insert_entry ghosts.cmp s.pairs p (segment_counted n none_counted) } else s

abbrev pub sighted : PortSight → PortsSeen → PortsSeen
sighted Nothing s = s
sighted (Server p) s = record s { servers = insert_key nat_cmp s.servers p }
sighted (Xot p n) s = pair_counted (lookup (is_at (ghosts.cmp p)) s.pairs) p n s

-- what becomes of a frame may be that it is a segment of other ports
abbrev pub use_sighted : FrameUse → PortsSeen → PortsSeen
use_sighted (becomes.OtherPort sight) s = sighted sight s
use_sighted u s = s

abbrev pub frame_sighted : Option Frame → XotReader → PortsSeen → PortsSeen
frame_sighted None x s = s
frame_sighted (Some f) x s = use_sighted (frame_use f x) s

-- what the segments of a capture show of other ports
abbrev pub ports_from : XotReader → List Record → PortsSeen → PortsSeen
ports_from x [] s = s
ports_from x (r ∷ rs) s = ports_from (reader_after r.frame x) rs (frame_sighted r.frame x s)

abbrev pub ports_of : CaptureOptions → List Record → PortsSeen
ports_of o records = ports_from (new_reader o) records no_ports

-- ---- the ports that are named

-- what was counted of a port: the sum of its pairs. A pair of one port counts for each of its ends
abbrev pub both_counted : PortCount → PortCount → PortCount
both_counted c d = record { weight = sum_up_to c.weight d.weight; segments = sum_up_to c.segments d.segments }

abbrev pub end_counted : (port end : ℕ) → PortCount → PortCount → PortCount
end_counted port end c sum = if end == port then both_counted sum c else sum

abbrev pub pair_of_port : (port : ℕ) → PortPair → PortCount → PortCount → PortCount
pair_of_port port p c sum = end_counted port p.high c (end_counted port p.low c sum)

abbrev pub port_count_from : (sum : PortCount) → List (PortPair × PortCount) → (port : ℕ) → PortCount
port_count_from sum [] port = sum
port_count_from sum (e ∷ es) port = port_count_from (pair_of_port port e.0 e.1 sum) es port

abbrev pub port_count : List (PortPair × PortCount) → (port : ℕ) → PortCount
port_count es port = port_count_from none_counted es port

-- what was counted of each port, in their order
pub record AreCounts (es : List (PortPair × PortCount)) (counts : List PortCount) : Type 0 where
  pub all : length counts ≡ 65536
  pub each : (port : ℕ) → port < 65536 → slice_index_or counts port none_counted ≡ port_count es port

-- the greatest weight comes first; of equal ones a port to which a connection was opened, and then the lowest
abbrev pub is_server : PortsSeen → (port : ℕ) → Bool
is_server s port = list_any (is_at (nat_cmp port)) s.servers

abbrev pub rank_of : (is_server : Bool) → (port : ℕ) → PortCount → ℕ
rank_of b port c = c.weight * 131072 + ((if b then 65536 else 0) + (65535 - port))

abbrev pub rank : PortsSeen → (port : ℕ) → ℕ
rank s port = rank_of (is_server s port) port (port_count s.pairs port)

-- a port is the first one, and its weight is at least 3
pub record IsFirst (s : PortsSeen) (p : NamedPort) : Type 0 where
  pub is_port : p.port < 65536
  pub enough : 3 ≤ (port_count s.pairs p.port).weight
  pub segments : p.segments ≡ (port_count s.pairs p.port).segments
  pub first : (port : ℕ) → port < 65536 → rank s port ≤ rank s p.port

abbrev pub HasNone : PortsSeen → Type 0
HasNone s = (port : ℕ) → port < 65536 → (port_count s.pairs port).weight < 3

abbrev pub IsFirstOf : PortsSeen → Option NamedPort → Type 0
IsFirstOf s None = HasNone s
IsFirstOf s (Some p) = IsFirst s p

-- what was counted between other ports
abbrev pub without : (port : ℕ) → PortsSeen → PortsSeen
without port s = record s { pairs = filter (λ e. not (has_port port e.0)) s.pairs }

-- each port is the first one of what is left without those before it; no port is left, or they are as many as are named at most
abbrev pub AreNamed : (most : ℕ) → PortsSeen → List NamedPort → Type 0
AreNamed zero s ps = ps ≡ []
AreNamed (suc n) s [] = HasNone s
AreNamed (suc n) s (p ∷ ps) = IsFirst s p × AreNamed n (without p.port s) ps
