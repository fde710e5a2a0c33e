-- The TCP segment that a datagram carries (RFC 9293).
use Rattle.std.specs.Prelude.{ℕ, ◌*◌, ◌/◌, ◌%◌, ◌==◌, ◌||◌, nat_lt, Bool, List, length, slice_index, Option, Some, None, Result, Ok, Err, if◌then◌else◌}
use Rattle.capture_model.specs.Views.{Payload}
use Rattle.ip_segments.specs.Numbers.{after, four, two}
use Rattle.ip_segments.specs.declared.fault.HeaderFault.{HeaderFault}
use Rattle.ip_segments.specs.declared.fault.HeaderFault.TheVariants as fault

pub record Segment : Type 0 where
  pub source : ℕ
  pub target : ℕ
  pub sequence : ℕ
  pub acknowledged : Option ℕ
  pub is_syn : Bool
  pub is_fin : Bool
  pub is_reset : Bool
  pub payload : Payload

-- how many octets its header has
abbrev pub header_of : List ℕ → ℕ
header_of xs = slice_index xs 12 / 16 * 4

-- the flag 16, ACK, says that the number counts
abbrev pub acknowledged : (flags number : ℕ) → Option ℕ
acknowledged flags n = if flags / 16 % 2 == 1 then Some n else None

unfoldable pub segment_of : Payload → Result Segment HeaderFault
segment_of p = if nat_lt (length p.octets) 20 || nat_lt p.length 20 then Err fault.TcpCut
    else if nat_lt (header_of p.octets) 20 || nat_lt p.length (header_of p.octets) then Err (fault.TcpLength (header_of p.octets))
    else Ok (record {
      source = two 0 p.octets;
      target = two 2 p.octets;
      sequence = four 4 p.octets;
      acknowledged = acknowledged (slice_index p.octets 13) (four 8 p.octets);
      is_syn = slice_index p.octets 13 / 2 % 2 == 1;
      is_fin = slice_index p.octets 13 % 2 == 1;
      is_reset = slice_index p.octets 13 / 4 % 2 == 1;
      payload = after (header_of p.octets) p;
    })
