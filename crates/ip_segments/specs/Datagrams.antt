-- What a datagram carries: IPv4 (RFC 791), and IPv6 with extension headers (RFC 8200, 4302).
use Rattle.std.specs.Prelude.{ℕ, zero, suc, ◌+◌, ◌-◌, ◌*◌, ◌/◌, ◌%◌, ◌==◌, ◌&&◌, ◌||◌, nat_lt, not, Bool, List, [], ◌∷◌, length, drop, take, slice_index, Option, Some, None, Result, Ok, Err, if◌then◌else◌}
use Rattle.std.specs.Result.{result_map_both}
use Rattle.capture_model.specs.Views.{Payload}
use Rattle.ip_segments.specs.Numbers.{after, four, two, within}
use Rattle.ip_segments.specs.declared.datagram.Fragment.{Fragment}
use Rattle.ip_segments.specs.declared.fault.HeaderFault.{HeaderFault}
use Rattle.ip_segments.specs.declared.fault.HeaderFault.TheVariants as fault

pub record Datagram : Type 0 where
  pub protocol : ℕ
  -- the addresses of its ends
  pub source : List ℕ
  pub target : List ℕ
  -- which part of a datagram it is, where it is not whole
  pub fragment : Option Fragment
  -- what comes after its headers
  pub payload : Payload

-- IPv4: how many octets its header has, and how many the datagram; 0 is what the frame has
abbrev pub header_4 : List ℕ → ℕ
header_4 xs = slice_index xs 0 % 16 * 4

abbrev pub total_4 : Payload → ℕ
total_4 p = if two 2 p.octets == 0 then p.length else two 2 p.octets

-- a flag 2^13 says that more fragments come; the offset is in units of eight octets
unfoldable pub fragment_4 : List ℕ → Option Fragment
fragment_4 xs = if two 6 xs % 0x4000 == 0 then None
    else Some (record { identification = two 4 xs; place = two 6 xs % 0x2000 * 8; is_last = two 6 xs / 0x2000 % 2 == 0 })

unfoldable pub version_4 : Payload → Result Datagram HeaderFault
version_4 p = if nat_lt (length p.octets) 20 then Err fault.InternetCut
    else if nat_lt (header_4 p.octets) 20 || nat_lt (total_4 p) (header_4 p.octets) then Err (fault.Lengths (header_4 p.octets) (total_4 p))
    else Ok (record {
      protocol = slice_index p.octets 9;
      source = take 4 (drop 12 p.octets);
      target = take 4 (drop 16 p.octets);
      fragment = fragment_4 p.octets;
      payload = after (header_4 p.octets) (within (total_4 p) p.octets);
    })

-- IPv6: hop-by-hop options, routing, fragment, authentication, destination options, mobility, host identity, shim
abbrev pub is_extension : ℕ → Bool
is_extension n = n == 0 || (n == 43 || (n == 44 || (n == 51 || (n == 60 || (n == 135 || (n == 139 || n == 140))))))

-- how many octets an extension header has, by its second octet
abbrev pub extension_size : (next length : ℕ) → ℕ
extension_size next n = if next == 44 then 8 else if next == 51 then 4 * (n + 2) else 8 * (n + 1)

-- the offset in eights of octets, two bits of none, and whether more fragments come
unfoldable pub fragment_6 : List ℕ → Fragment
fragment_6 xs = record { identification = four 4 xs; place = two 2 xs / 8 * 8; is_last = two 2 xs % 2 == 0 }

-- what comes after the extension headers
pub record Upper : Type 0 where
  pub protocol : ℕ
  pub fragment : Option Fragment
  pub payload : Payload

-- a fragment header of a whole datagram has neither an offset nor more fragments
abbrev pub is_fragment : (next : ℕ) → List ℕ → Bool
is_fragment next xs = next == 44 && (not (two 2 xs / 8 == 0) || two 2 xs % 2 == 1)

abbrev pub upper : (next : ℕ) → Payload → Result Upper HeaderFault
upper next p = Ok (record { protocol = next; fragment = None; payload = p })

abbrev pub part : Payload → Result Upper HeaderFault
part p = Ok (record { protocol = slice_index p.octets 0; fragment = Some (fragment_6 p.octets); payload = after 8 p })

-- at most so many extension headers, and what they carry
unfoldable pub opened : (left next : ℕ) → Payload → Result Upper HeaderFault
opened zero next p = if is_extension next then Err fault.ExtensionsCut else upper next p
opened (suc n) next p = if is_extension next then
    (if nat_lt (length p.octets) 8 then Err fault.ExtensionsCut
    else if is_fragment next p.octets then part p
    else opened n (slice_index p.octets 0) (after (extension_size next (slice_index p.octets 1)) p))
    else upper next p

-- how many octets come after the first header; 0 is what the frame has
abbrev pub length_6 : Payload → ℕ
length_6 p = if two 4 p.octets == 0 then p.length - 40 else two 4 p.octets

unfoldable pub above_6 : Payload → Result Upper HeaderFault
above_6 p = opened 64 (slice_index p.octets 6) (within (length_6 p) (drop 40 p.octets))

abbrev pub with_ends : (source target : List ℕ) → Upper → Datagram
with_ends s t u = record { protocol = u.protocol; source = s; target = t; fragment = u.fragment; payload = u.payload }

unfoldable pub version_6 : Payload → Result Datagram HeaderFault
version_6 p = if nat_lt (length p.octets) 40 then Err fault.InternetCut
    else result_map_both (with_ends (take 16 (drop 8 p.octets)) (take 16 (drop 24 p.octets))) (λ f. f) (above_6 p)

-- the first four bits are the version
unfoldable pub datagram_by : ℕ → Payload → Result Datagram HeaderFault
datagram_by v p = if v == 4 then version_4 p
    else if v == 6 then version_6 p
    else if v == 0 then Err fault.InternetCut
    else Err (fault.Version v)

abbrev pub datagram_in : List ℕ → Payload → Result Datagram HeaderFault
datagram_in [] p = Err fault.InternetCut
datagram_in (x ∷ xs) p = datagram_by (x / 16) p

abbrev pub datagram_of : Payload → Result Datagram HeaderFault
datagram_of p = datagram_in p.octets p
