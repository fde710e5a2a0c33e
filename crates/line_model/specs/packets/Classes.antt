-- The classes of packets (X.25 clause 5, Table 5-2), and their decoding.
use Rattle.std.specs.Prelude.{ℕ, not, ◌==◌, nat_lt, List, [], ◌∷◌, length, Option, Some, None, unwrap_or, if◌then◌else◌}
use Rattle.line_model.specs.declared.interface.Interface.{Interface}
use Rattle.line_model.specs.declared.packet.Class.{Class}
use Rattle.line_model.specs.declared.packet.Class.TheVariants.{Short, WrongFormat, Unassigned, Restart, RestartConfirm, Diagnostic, Registration, TwoOctets, RestartHere, Call, Accepted, Clear, ClearConfirm, Interrupt, InterruptConfirm, Reset, ResetConfirm, Data, Rr, Rnr, Rej, Undefined}
use Rattle.line_model.specs.declared.packet.Packet.{Packet}
use Rattle.line_model.specs.declared.packet.Packet as packet
use Rattle.line_model.specs.declared.packet.PacketKind.{PacketKind}
use Rattle.line_model.specs.declared.packet.PacketKind as kind
use Rattle.line_model.specs.declared.packet.DataHeader.{DataHeader}
use Rattle.line_model.specs.basics.Octets.{octet, bits, channel_of}
use Rattle.line_model.specs.basics.Choice.{first_that, value_at}

-- bits 6 and 5 of the general format identifier (Table 5-1)
abbrev pub format_of : Interface → ℕ
format_of i = if i.modulus == 8 then 1 else 2

-- the packets on channel 0, by octet 3 (Table 5-2)
abbrev pub line_type : ℕ → Option Class
line_type t =
    value_at ((0xfb, Restart) ∷ (0xff, RestartConfirm) ∷ (0xf1, Diagnostic) ∷ (0xf3, Registration) ∷ (0xf7, Registration) ∷ []) t

-- the packets on a channel that have an octet 3 of their own (Table 5-2)
abbrev pub channel_type : ℕ → Option Class
channel_type t =
    value_at ((0x0b, Call) ∷ (0x0f, Accepted) ∷ (0x13, Clear) ∷ (0x17, ClearConfirm)
    ∷ (0x23, Interrupt) ∷ (0x27, InterruptConfirm) ∷ (0x1b, Reset) ∷ (0x1f, ResetConfirm)
    ∷ (0xfb, RestartHere) ∷ (0xff, RestartHere) ∷ []) t

-- octet 3 without P(R), which it holds at modulo 8 (5.4)
abbrev pub supervisory : Interface → ℕ → ℕ
supervisory i t = if i.modulus == 8 then bits 5 1 t else t

-- RR, RNR and REJ (Table 5-2)
abbrev pub flow_type : ℕ → Option Class
flow_type t = value_at ((0x01, Rr) ∷ (0x05, Rnr) ∷ (0x09, Rej) ∷ []) t

-- the class of a packet of three octets and more on an assigned channel
abbrev pub type_class : Interface → ℕ → Class
type_class i t =
    if bits 1 1 t == 0 then Data
    else unwrap_or (channel_type t) (unwrap_or (flow_type (supervisory i t)) Undefined)

-- the class of a packet on channel 0, where two octets and other types are unassigned (profile)
abbrev pub line_class : List ℕ → Class
line_class xs = if length xs == 2 then Unassigned else unwrap_or (line_type (octet 3 xs)) Unassigned

-- the class of a packet on an assigned channel
abbrev pub channel_class : Interface → List ℕ → Class
channel_class i xs = if length xs == 2 then TwoOctets else type_class i (octet 3 xs)

-- the class of a packet, first that holds (the order is profile)
abbrev pub class_of : Interface → List ℕ → Class
class_of i xs = first_that
    ((nat_lt (length xs) 2, Short)
    ∷ (not (bits 6 5 (octet 1 xs) == format_of i), WrongFormat)
    ∷ (nat_lt i.svc (channel_of xs), Unassigned)
    ∷ (channel_of xs == 0, line_class xs) ∷ [])
    (channel_class i xs)

-- P(S), P(R), M and D of a data packet, none where the header is cut (5.3.1)
abbrev pub data_header : Interface → List ℕ → Option DataHeader
data_header i xs = first_that
    ((
      i.modulus == 8,
      Some (record {
        send = bits 4 2 (octet 3 xs);
        receive = bits 8 6 (octet 3 xs);
        more = bits 5 5 (octet 3 xs) == 1;
        delivery = bits 7 7 (octet 1 xs) == 1;
        qualified = bits 8 8 (octet 1 xs) == 1;
      }),
    )
    ∷ (nat_lt (length xs) 4, None) ∷ [])
    (Some (record {
      send = bits 8 2 (octet 3 xs);
      receive = bits 8 2 (octet 4 xs);
      more = bits 1 1 (octet 4 xs) == 1;
      delivery = bits 7 7 (octet 1 xs) == 1;
      qualified = bits 8 8 (octet 1 xs) == 1;
    }))

-- P(R) of RR and RNR, none where the header is cut (5.4)
abbrev pub receive_number : Interface → List ℕ → Option ℕ
receive_number i xs = first_that
    ((i.modulus == 8, Some (bits 8 6 (octet 3 xs)))
    ∷ (nat_lt (length xs) 4, None) ∷ [])
    (Some (bits 8 2 (octet 4 xs)))

-- how many octets come before the user data of a data packet, and how many a whole RR or RNR has
abbrev pub header_length : Interface → ℕ
header_length i = if i.modulus == 8 then 3 else 4

-- what a packet of a class is on its channel, with its numbers and bits
abbrev pub kind_of : Interface → List ℕ → Class → PacketKind
kind_of i xs TwoOctets = kind.TheVariants.TwoOctets
kind_of i xs RestartHere = kind.TheVariants.RestartHere
kind_of i xs Call = kind.TheVariants.Call
kind_of i xs Accepted = kind.TheVariants.Accepted
kind_of i xs Clear = kind.TheVariants.Clear
kind_of i xs ClearConfirm = kind.TheVariants.ClearConfirm
kind_of i xs Interrupt = kind.TheVariants.Interrupt
kind_of i xs InterruptConfirm = kind.TheVariants.InterruptConfirm
kind_of i xs Reset = kind.TheVariants.Reset
kind_of i xs ResetConfirm = kind.TheVariants.ResetConfirm
kind_of i xs Data = kind.TheVariants.Data (data_header i xs)
kind_of i xs Rr = kind.TheVariants.Rr (receive_number i xs)
kind_of i xs Rnr = kind.TheVariants.Rnr (receive_number i xs)
kind_of i xs Rej = kind.TheVariants.Rej
kind_of i xs _ = kind.TheVariants.Undefined

-- the packet of a class
abbrev pub packet_with : Interface → List ℕ → Class → Packet
packet_with i xs Short = packet.TheVariants.Short
packet_with i xs WrongFormat = packet.TheVariants.WrongFormat
packet_with i xs Unassigned = packet.TheVariants.Unassigned
packet_with i xs Diagnostic = packet.TheVariants.Diagnostic
packet_with i xs Registration = packet.TheVariants.Registration
packet_with i xs Restart = packet.TheVariants.Restart
packet_with i xs RestartConfirm = packet.TheVariants.RestartConfirm
packet_with i xs k = packet.TheVariants.Channel (channel_of xs) (kind_of i xs k)

-- the packet in some octets
abbrev pub packet_of : Interface → List ℕ → Packet
packet_of i xs = packet_with i xs (class_of i xs)

-- the class of a packet on a channel; a gap, which is not a packet, has the class of an undefined type
abbrev pub kind_class : PacketKind → Class
kind_class kind.TheVariants.TwoOctets = TwoOctets
kind_class kind.TheVariants.RestartHere = RestartHere
kind_class kind.TheVariants.Call = Call
kind_class kind.TheVariants.Accepted = Accepted
kind_class kind.TheVariants.Clear = Clear
kind_class kind.TheVariants.ClearConfirm = ClearConfirm
kind_class kind.TheVariants.Interrupt = Interrupt
kind_class kind.TheVariants.InterruptConfirm = InterruptConfirm
kind_class kind.TheVariants.Reset = Reset
kind_class kind.TheVariants.ResetConfirm = ResetConfirm
kind_class (kind.TheVariants.Data h) = Data
kind_class (kind.TheVariants.Rr n) = Rr
kind_class (kind.TheVariants.Rnr n) = Rnr
kind_class kind.TheVariants.Rej = Rej
kind_class kind.TheVariants.Undefined = Undefined
kind_class kind.TheVariants.Gap = Undefined

-- the class of a packet that was decoded
abbrev pub packet_class : Packet → Class
packet_class packet.TheVariants.Short = Short
packet_class packet.TheVariants.WrongFormat = WrongFormat
packet_class packet.TheVariants.Unassigned = Unassigned
packet_class packet.TheVariants.Diagnostic = Diagnostic
packet_class packet.TheVariants.Registration = Registration
packet_class packet.TheVariants.Restart = Restart
packet_class packet.TheVariants.RestartConfirm = RestartConfirm
packet_class (packet.TheVariants.Channel c k) = kind_class k
packet_class packet.TheVariants.GapOfAll = Unassigned
