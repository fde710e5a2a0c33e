-- What the words say of captures (profile).
use Rattle.std.specs.Prelude.{◌&&◌, ◌||◌, ◌==◌, ℕ, List, [], ◌∷◌, Bool, false, true, not, Option, None, Some, is_none, is_some, codes, if◌then◌else◌}
use Rattle.std.specs.List.{list_any}
use Rattle.std.specs.Int.{from_be_bytes, w128, w32}
use Rattle.std.specs.Net.Addr.{ipv4_octets, ipv6_segments, octets_of}
use Rattle.std.specs.Net.Reader.{Read, read_ipv4, read_ipv6}
use Rattle.std.specs.Option.{option_and_then, option_map, option_or, unwrap_or}
use Rattle.std.specs.Str.{bytes_eq}
use Rattle.std.specs.declared.net.ip_addr.IpAddr.{IpAddr}
use Rattle.std.specs.declared.net.ip_addr.IpAddr.TheVariants.{V4, V6}
use Rattle.capture_model.specs.declared.kind.LinkKind.{LinkKind}
use Rattle.capture_model.specs.declared.kind.LinkKind.TheVariants.{CheckedLapb, Cooked1, Cooked2, DirectedLapb, DirectedPacket, Ethernet, Internet, Lapb, Packet}
use Rattle.capture_report.specs.declared.options.CaptureOptions.{CaptureOptions}
use Rattle.capture_report.specs.declared.options.GivenHeader.{GivenHeader}
use Rattle.capture_rows.specs.declared.choices.Carrier.{Carrier}
use Rattle.capture_rows.specs.declared.choices.Carrier.TheVariants as carrier
use Rattle.capture_rows.specs.declared.choices.Choices.{Choices}
use Rattle.capture_rows.specs.declared.station.StationBy.TheVariants.{Either}
use Rattle.clap.specs.Words.{Text}
use Rattle.line_model.specs.basics.Limits.{packet_sizes}
use Rattle.lapb_link.specs.declared.modulus.Modulus.{Modulus}
use Rattle.lapb_link.specs.declared.modulus.Modulus.TheVariants.{Basic, Extended}
use Rattle.line_model.specs.declared.state.Side.TheVariants.{T}
use Rattle.capture_report.specs.Given.{is_plain, is_whole, xot_port}
use Rattle.capture_report.specs.declared.row_source.RowSource.{RowSource}
use Rattle.capture_report.specs.declared.row_source.RowSource.TheVariants.{Line, Xot}
use Rattle.xot_circuits.specs.declared.roles.Host.{Host}
use Rattle.command_line.specs.Numbers.{Values, has, number_of}
use Rattle.command_line.specs.Options.{named_by}

-- what a text names: a modulus, a link header, a carrier
abbrev pub modulus_named : Text → Option Modulus
modulus_named text = if bytes_eq text (codes "8") then Some Basic else if bytes_eq text (codes "128") then Some Extended else None

abbrev pub kind_named : Text → Option LinkKind
kind_named text =
    if bytes_eq text (codes "ethernet") then Some Ethernet
    else if bytes_eq text (codes "sll") then Some Cooked1
    else if bytes_eq text (codes "sll2") then Some Cooked2
    else if bytes_eq text (codes "ip") then Some Internet
    else if bytes_eq text (codes "lapb") then Some Lapb
    else if bytes_eq text (codes "lapb-dir") then Some DirectedLapb
    else if bytes_eq text (codes "hdlc") then Some CheckedLapb
    else if bytes_eq text (codes "x25") then Some Packet
    else if bytes_eq text (codes "x25-dir") then Some DirectedPacket
    else None

abbrev pub carrier_named : Text → Option Carrier
carrier_named text = if bytes_eq text (codes "lapb") then Some carrier.Lapb else if bytes_eq text (codes "x25") then Some carrier.Packet else None

-- a number that is a packet size
abbrev pub size_if : ℕ → Option ℕ
size_if n = if list_any (λ size. n == size) packet_sizes then Some n else None

abbrev pub size_of : Values → Option ℕ
size_of values = option_and_then size_if (number_of 16 (values (codes "size")))

-- what carries packets, by a text
abbrev pub source_named : Text → Option RowSource
source_named text = if bytes_eq text (codes "xot") then Some Xot else if is_some (carrier_named text) then Some Line else None

abbrev pub modulus_of : Option Text → Option Modulus
modulus_of text = option_and_then modulus_named text

abbrev pub kind_of : Values → Option LinkKind
kind_of values = option_and_then kind_named (values (codes "as"))

abbrev pub carrier_of : Values → Option Carrier
carrier_of values = option_and_then carrier_named (values (codes "only"))

abbrev pub source_of : Values → Option RowSource
source_of values = option_and_then source_named (values (codes "only"))

-- the host of an address
abbrev pub host_by_octets : List ℕ → Host
host_by_octets octets = record { is_version_6 = false; address = from_be_bytes w32 octets }

abbrev pub host_by_segments : List ℕ → Host
host_by_segments segments = record { is_version_6 = true; address = from_be_bytes w128 (octets_of segments) }

abbrev pub host_of : IpAddr → Host
host_of (V4 a) = host_by_octets (ipv4_octets a)
host_of (V6 a) = host_by_segments (ipv6_segments a)

-- what std reads of a text, where nothing is left of it
abbrev pub whole : Read (List ℕ) → Option (List ℕ)
whole None = None
whole (Some (xs, [])) = Some xs
whole (Some (xs, y ∷ ys)) = None

-- the host that a text names by its address
abbrev pub host_named : Text → Option Host
host_named text = option_or (option_map host_by_octets (whole (read_ipv4 text))) (option_map host_by_segments (whole (read_ipv6 text)))

abbrev pub dte_of : Values → Option Host
dte_of values = option_and_then host_named (values (codes "dte"))

-- whether the recording is said to begin in the middle
abbrev pub joining_of : Values → Option Bool
joining_of values = if has values (codes "join") then Some true else if has values (codes "no-join") then Some false else None

-- the numbers of the header
abbrev pub header_of : Values → GivenHeader
header_of values = record {
  modulus = modulus_of (values (codes "mod"));
  window = number_of 8 (values (codes "win"));
  size = size_of values;
  pvc = number_of 16 (values (codes "pvc"));
  incoming = number_of 16 (values (codes "in"));
  two_way = number_of 16 (values (codes "two"));
  svc = number_of 16 (values (codes "svc"));
  outgoing = number_of 16 (values (codes "out"));
  join = joining_of values;
}

-- how the frames of a line are read
abbrev pub choices_of : Values → Choices
choices_of values = record {
  unknown = kind_of values;
  carrier = carrier_of values;
  interface = number_of 32 (values (codes "interface"));
  station_by = Either;
  host = T;
}

abbrev pub capture_of : Values → CaptureOptions
capture_of values = record { header = header_of values; choices = choices_of values; modulus = modulus_of (values (codes "lapb-modulo")); is_swapped = has values (codes "swap"); dte = dte_of values; source = source_of values; port = unwrap_or (number_of 16 (values (codes "port"))) xot_port }

-- whether an option has a value that names nothing of its kind
abbrev pub is_unknown : (value : Option Text) → (named : Bool) → Bool
is_unknown value named = is_some value && not named

abbrev pub has_unknown_number : Values → Bool
has_unknown_number values =
    is_unknown (values (codes "mod")) (is_some (modulus_of (values (codes "mod"))))
    || (is_unknown (values (codes "size")) (is_some (size_of values)) || is_unknown (values (codes "lapb-modulo")) (is_some (modulus_of (values (codes "lapb-modulo")))))

abbrev pub has_unknown : Values → Bool
has_unknown values =
    has_unknown_number values || (is_unknown (values (codes "as")) (is_some (kind_of values)) || (is_unknown (values (codes "only")) (is_some (source_of values)) || is_unknown (values (codes "dte")) (is_some (dte_of values))))

-- whether channels are given in two ways, or the beginning is
abbrev pub excludes_numbers : Values → Bool
excludes_numbers values = is_some (values (codes "svc")) && (is_some (values (codes "in")) || (is_some (values (codes "two")) || is_some (values (codes "out"))))

-- whether options of captures are given for standard input without the whole header: it is read as a trace then
abbrev pub excludes_standard : Values → Bool
excludes_standard values = is_none (named_by (values (codes "file"))) && (not (is_plain (capture_of values)) && not (is_whole (header_of values)))

-- whether captures are named after standard input, which is read alone
abbrev pub excludes_further : Values → Bool
excludes_further values = is_none (named_by (values (codes "file"))) && is_some (values (codes "further"))

abbrev pub excludes_files : Values → Bool
excludes_files values = excludes_further values || excludes_standard values

abbrev pub excludes_captures : Values → Bool
excludes_captures values = has_unknown values || ((has values (codes "join") && has values (codes "no-join")) || (excludes_numbers values || excludes_files values))
