-- Carriers between a link header and a datagram, and between datagrams.
use Rattle.std.specs.Prelude.{ℕ, zero, suc, ◌+◌, ◌-◌, ◌*◌, ◌/◌, ◌%◌, ◌==◌, ◌&&◌, ◌||◌, nat_lt, Bool, false, List, ◌∷◌, length, slice_index, Result, Ok, Err, if◌then◌else◌}
use Rattle.capture_model.specs.Ethernet.{is_tag, untagged}
use Rattle.capture_model.specs.LinkHeaders.{has_control}
use Rattle.capture_model.specs.Views.{Payload}
use Rattle.capture_model.specs.declared.kind.LinkKind.{LinkKind}
use Rattle.capture_model.specs.declared.kind.LinkKind.TheVariants as kind
use Rattle.ip_segments.specs.Numbers.{after, two}
use Rattle.ip_segments.specs.declared.carriers.CarrierFault.{CarrierFault}
use Rattle.ip_segments.specs.declared.carriers.CarrierFault.TheVariants as fault

-- what comes next: a datagram, an Ethernet type in a further carrier, or neither
pub data Layer : Type 0 where
  Internet : Payload → Layer
  Ethernet : Payload → Layer
  Neither : CarrierFault → Layer

-- after the labels of MPLS: a datagram by its version, or Ethernet after a control word and two addresses
abbrev pub by_version : ℕ → Payload → Layer
by_version v p = if v == 4 || v == 6 then Internet p else if v == 0 then Ethernet (after 16 p) else Neither fault.OtherProtocol

-- a label has four octets; the lowest bit of the third one is that of the last label
abbrev pub by_labels : List ℕ → (length : ℕ) → Layer
by_labels (a ∷ b ∷ c ∷ d ∷ e ∷ xs) n = if c % 2 == 0 then by_labels (e ∷ xs) (n - 4)
    else by_version (e / 16) (record { octets = e ∷ xs; length = n - 4 })
by_labels xs n = Neither fault.Cut

abbrev pub labels : Payload → Layer
labels p = by_labels p.octets p.length

-- octets begin with a label that is not the last one
abbrev pub has_label : List ℕ → Bool
has_label (a ∷ b ∷ c ∷ d ∷ e ∷ xs) = c % 2 == 0
has_label xs = false

-- a protocol of PPP
abbrev pub by_ppp : ℕ → Payload → Layer
by_ppp n p = if n == 0x0021 || n == 0x0057 then Internet p
    else if n == 0x0281 || n == 0x0283 then labels p
    else Neither fault.OtherProtocol

abbrev pub ppp : Payload → Layer
ppp p = if nat_lt (length p.octets) 2 then Neither fault.Cut else by_ppp (two 0 p.octets) (after 2 p)

-- an Ethernet type: IPv4, IPv6, MPLS, and a session of PPPoE, whose header has six octets
abbrev pub by_type : ℕ → Payload → Layer
by_type n p = if n == 0x0800 || n == 0x86DD then Internet p
    else if n == 0x8847 || n == 0x8848 then labels p
    else if n == 0x8864 then ppp (after 6 p)
    else if is_tag n then Neither fault.Cut
    else Neither fault.OtherProtocol

-- an Ethernet type, perhaps after tags
abbrev pub type_of : Payload → Layer
type_of p = if nat_lt (length p.octets) 2 then Neither fault.Cut else by_type (two 0 p.octets) (after 2 p)

abbrev pub types : Payload → Layer
types p = type_of (untagged p.octets p.length)

-- an Ethernet type that stands before other fields; after that of a tag come its two octets
abbrev pub by_protocol : ℕ → Payload → Layer
by_protocol n p = if is_tag n then types (after 2 p) else by_type n p

-- GRE (RFC 2784, 2890): four octets for a checksum, a key and a sequence number each
abbrev pub gre_size : (flags : ℕ) → ℕ
gre_size n = 4 + 4 * (n / 128 + n / 32 % 2 + n / 16 % 2)

-- version 0 without routing
abbrev pub is_gre_0 : List ℕ → Bool
is_gre_0 xs = slice_index xs 1 % 8 == 0 && slice_index xs 0 / 64 % 2 == 0

-- Ethernet in GRE begins with two addresses
abbrev pub in_gre : (protocol : ℕ) → Payload → Layer
in_gre n p = if n == 0x6558 then types (after 12 p) else by_protocol n p

abbrev pub gre : Payload → Layer
gre p = if nat_lt (length p.octets) 4 then Neither fault.Cut
    else if is_gre_0 p.octets then in_gre (two 2 p.octets) (after (gre_size (slice_index p.octets 0)) p)
    else Neither fault.OtherProtocol

-- VXLAN (RFC 7348): UDP to one of its ports, a flag that says that the network has a number, then Ethernet
abbrev pub is_vxlan : List ℕ → Bool
is_vxlan xs = (two 2 xs == 4789 || two 2 xs == 8472) && slice_index xs 8 / 8 % 2 == 1

abbrev pub vxlan : Payload → Layer
vxlan p = if nat_lt (length p.octets) 16 then Neither fault.OtherProtocol
    else if is_vxlan p.octets then types (after 28 p)
    else Neither fault.OtherProtocol

-- what a datagram of a protocol carries
abbrev pub tunnel : (protocol : ℕ) → Payload → Layer
tunnel n p = if n == 4 || n == 41 then Internet p
    else if n == 47 then gre p
    else if n == 17 then vxlan p
    else Neither fault.OtherProtocol

-- what a frame carries by its link header
abbrev pub cooked : (size at : ℕ) → Payload → Layer
cooked size at p = if nat_lt (length p.octets) size then Neither fault.Cut else by_protocol (two at p.octets) (after size p)

abbrev pub is_cisco : List ℕ → Bool
is_cisco xs = slice_index xs 0 == 0x0F || slice_index xs 0 == 0x8F

abbrev pub cisco : Payload → Layer
cisco p = if nat_lt (length p.octets) 4 then Neither fault.Cut
    else if is_cisco p.octets then by_protocol (two 2 p.octets) (after 4 p)
    else Neither fault.OtherProtocol

abbrev pub framed_ppp : Payload → Layer
framed_ppp p = if has_control p.octets then ppp (after 2 p) else ppp p

abbrev pub frame : LinkKind → Payload → Layer
frame kind.Ethernet p = types (after 12 p)
frame kind.Cooked1 p = cooked 16 14 p
frame kind.Cooked2 p = cooked 20 0 p
frame kind.Internet p = Internet p
frame kind.Loopback p = Internet (after 4 p)
frame kind.Ppp p = framed_ppp p
frame kind.Cisco p = cisco p
frame k p = Neither fault.OtherProtocol

-- the datagram inside, and how many further carriers may be around one in it
pub record Inner : Type 0 where
  pub payload : Payload
  pub left : ℕ

unfoldable pub opened : (left : ℕ) → Layer → Result Inner CarrierFault
opened left (Internet p) = Ok (record { payload = p; left = left })
opened left (Neither x) = Err x
opened zero (Ethernet p) = Err fault.TooDeep
opened (suc n) (Ethernet p) = opened n (types p)

-- a carrier around a datagram counts as one
abbrev pub entered : (left : ℕ) → Layer → Result Inner CarrierFault
entered left (Neither x) = Err x
entered zero l = Err fault.TooDeep
entered (suc n) l = opened n l

abbrev pub in_datagram : (left protocol : ℕ) → Payload → Result Inner CarrierFault
in_datagram left n p = entered left (tunnel n p)

abbrev pub in_frame : LinkKind → Payload → Result Inner CarrierFault
in_frame k p = opened 8 (frame k p)
