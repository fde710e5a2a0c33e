-- What a frame gives has its octets, and at most 4,200 of them.
use Rattle.std.proofs.Common.{◌≡◌, ℕ, suc, ◌+◌, ◌-◌, ◌*◌, ◌%◌, ◌<◌, ◌≤◌, ◌&&◌, ◌||◌, Bool, true, false, min, List, [], ◌∷◌, length, Option, None, Some, drop, take, refl, arith}
use Rattle.std.specs.Prelude.{IfSome, nat_le, nat_lt, slice_index, unwrap_or, ◌==◌, if◌then◌else◌}
use Rattle.std.specs.Option.{option_map}
use Rattle.std.proofs.lemmas.Bool.Decides.{nat_tests}
use Rattle.hex.specs.Hex.{IsBytes}
use Rattle.line_model.specs.declared.state.Side.{Side}
use Rattle.capture_model.specs.Frames.{Frame}
use Rattle.capture_model.specs.declared.frame.Direction.{Direction}
use Rattle.capture_model.specs.declared.frame.Direction.TheVariants as direction
use Rattle.capture_model.specs.declared.reason.Reason.{Reason}
use Rattle.capture_model.specs.declared.reason.Reason.TheVariants as reason
use Rattle.capture_model.specs.Devices.{device_octets, device_packet, device_word}
use Rattle.capture_model.specs.Ethernet.{after, by_cooked, by_protocol, by_type, by_type_of, is_tag, lapb_of, two_octets, untagged}
use Rattle.capture_model.specs.HeaderViews.{LinkHeader}
use Rattle.capture_model.specs.LinkHeaders.{by_ppp_of, cisco, directed_by, direction_of, has_control, has_lapb_address, header_by, header_of, index_of, plain, ppp, protocol_at}
use Rattle.capture_model.specs.Views.{Carried, CheckedLapb, Cut, Device, Internet, Lapb, Other, Packet, Payload, Unknown}
use Rattle.capture_model.specs.declared.kind.LinkKind.{LinkKind}
use Rattle.capture_model.specs.declared.kind.LinkKind.TheVariants as kind
use Rattle.lapb_link.specs.Checks.{checked_end, unflagged, unframed}
use Rattle.lapb_link.specs.Links as links
use Rattle.lapb_link.specs.Links.{LinkFrame}
use Rattle.lapb_link.specs.declared.ends.Sender.{Sender}
use Rattle.lapb_link.specs.declared.frames.Place.{Place}
use Rattle.capture_rows.specs.Choosing.{is_chosen, is_on, kind_of}
use Rattle.capture_rows.specs.Givens as given
use Rattle.capture_rows.specs.Givens.{Given, lost, packet_or_gap, some_channel}
use Rattle.capture_rows.specs.Lines.{Read, as_given, carried_read, checked_read, device_read, frame_read, kind_read, lapb_read, link_frame, link_read, nothing, packet_by, packet_read, shortened, side_of, unframed_whole}
use Rattle.capture_rows.specs.declared.choices.Carrier.TheVariants as carrier
use Rattle.capture_rows.specs.declared.line.Line.{Line}
use Rattle.capture_report.specs.TraceRows.{IsPlace}
use Rattle.capture_report.proofs.HeldLemmas.{AreShown}
use Rattle.capture_report.proofs.LinkLemmas.{HoldsFrames, IsWhat, bytes_drop, bytes_take, link_frame_is}

-- ---- the octets after a link header

abbrev pub IsCarried : Carried → Type 0
IsCarried (Internet p) = Unit {0}
IsCarried (Lapb p) = IsBytes p.octets
IsCarried (CheckedLapb p) = IsBytes p.octets
IsCarried (Packet p) = IsBytes p.octets
IsCarried (Device p) = IsBytes p.octets
IsCarried Other = Unit {0}
IsCarried Cut = Unit {0}
IsCarried Unknown = Unit {0}

abbrev payload_of : List ℕ → ℕ → Payload
payload_of xs n = record { octets = xs; length = n }

untagged_bytes : (xs : List ℕ) (n : ℕ) → IsBytes xs → IsBytes (untagged xs n).octets
untagged_bytes [] n h = h
untagged_bytes (a ∷ []) n h = h
untagged_bytes (a ∷ b ∷ []) n h = h
untagged_bytes (a ∷ b ∷ c ∷ []) n h = h
untagged_bytes (a ∷ b ∷ c ∷ d ∷ xs) n h = at (is_tag (two_octets a b)) (untagged_bytes xs (n - 4) (λ k. h (suc (suc (suc (suc k))))))
  where
    at : (v : Bool) → IsBytes (untagged xs (n - 4)).octets → IsBytes (if v then untagged xs (n - 4) else payload_of (a ∷ b ∷ c ∷ d ∷ xs) n).octets
    at true later = later
    at false later = h

lapb_carried : (xs : List ℕ) (n : ℕ) → IsBytes xs → IsCarried (lapb_of xs n)
lapb_carried [] n h = tt
lapb_carried (a ∷ []) n h = tt
lapb_carried (a ∷ b ∷ xs) n h = at (nat_lt (n - 2) (two_octets b a))
  where
    at : (v : Bool) → IsCarried (if v then Other else Lapb (payload_of (take (two_octets b a) xs) (two_octets b a)))
    at true = tt
    at false = bytes_take (two_octets b a) xs (λ k. h (suc (suc k)))

protocol_carried : (n : ℕ) (p : Payload) → IsBytes p.octets → IsCarried (by_protocol n p)
protocol_carried n p h = at ((n == 0x0800) || (n == 0x86DD)) (n == 0x0805) (n == 0x0019) (n == 0x6000) (is_tag n)
  where
    at : (internet device lapb ethernet tag : Bool) → IsCarried (if internet then Internet p else if device then Device p else if lapb then Lapb p else if ethernet then lapb_of p.octets p.length else if tag then Cut else Other)
    at true b c d e = tt
    at false true c d e = h
    at false false true d e = h
    at false false false true e = lapb_carried p.octets p.length h
    at false false false false true = tt
    at false false false false false = tt

type_carried : (xs : List ℕ) (n : ℕ) → IsBytes xs → IsCarried (by_type_of xs n)
type_carried [] n h = tt
type_carried (a ∷ []) n h = tt
type_carried (a ∷ b ∷ xs) n h = protocol_carried (two_octets a b) (payload_of xs (n - 2)) (λ k. h (suc (suc k)))

by_type_carried : (p : Payload) → IsBytes p.octets → IsCarried (by_type p)
by_type_carried p h = type_carried (untagged p.octets p.length).octets (untagged p.octets p.length).length (untagged_bytes p.octets p.length h)

cooked_carried : (n : ℕ) (p : Payload) → IsBytes p.octets → IsCarried (by_cooked n p)
cooked_carried n p h = at (is_tag n)
  where
    at : (v : Bool) → IsCarried (if v then by_type (after 2 p) else by_protocol n p)
    at true = by_type_carried (after 2 p) (bytes_drop 2 p.octets h)
    at false = protocol_carried n p h

ppp_of_carried : (xs : List ℕ) (p : Payload) → IsCarried (by_ppp_of xs p)
ppp_of_carried [] p = tt
ppp_of_carried (a ∷ []) p = tt
ppp_of_carried (a ∷ b ∷ xs) p = at ((two_octets a b == 0x0021) || (two_octets a b == 0x0057))
  where
    at : (v : Bool) → IsCarried (if v then Internet (after 2 p) else Other)
    at true = tt
    at false = tt

ppp_carried : (p : Payload) → IsBytes p.octets → IsCarried (ppp p)
ppp_carried p h = at (has_lapb_address p.octets) (has_control p.octets)
  where
    at : (lapb framed : Bool) → IsCarried (if lapb then Lapb p else if framed then by_ppp_of (drop 2 p.octets) (after 2 p) else by_ppp_of p.octets p)
    at true b = h
    at false true = ppp_of_carried (drop 2 p.octets) (after 2 p)
    at false false = ppp_of_carried p.octets p

cisco_carried : (p : Payload) → IsBytes p.octets → IsCarried (cisco p)
cisco_carried p h = at (nat_lt (length p.octets) 2) (nat_le 4 (length p.octets) && ((slice_index p.octets 0 == 0x0F) || (slice_index p.octets 0 == 0x8F)))
  where
    at : (short cooked : Bool) → IsCarried (if short then Cut else if cooked then by_cooked (protocol_at 2 p.octets) (after 4 p) else Lapb p)
    at true b = tt
    at false true = cooked_carried (protocol_at 2 p.octets) (after 4 p) (bytes_drop 4 p.octets h)
    at false false = h

-- a header that is too short carries nothing
header_if : (short : Bool) (d : Direction) (h : LinkHeader) → IsCarried h.carried → IsCarried (if short then plain d Cut else h).carried
header_if true d h k = tt
header_if false d h k = k

directed_carried : (xs : List ℕ) (c : Carried) → IsCarried c → IsCarried (directed_by xs c).carried
directed_carried [] c h = tt
directed_carried (x ∷ xs) c h = h

header_carried : (k : LinkKind) (d : Direction) (p : Payload) → IsBytes p.octets → IsCarried (header_by k d p).carried
header_carried kind.Ethernet d p h =
    header_if (nat_lt (length p.octets) 12) d (record { carried = by_type (after 12 p); direction = d; source = take 6 (drop 6 p.octets); index = None }) (by_type_carried (after 12 p) (bytes_drop 12 p.octets h))
header_carried kind.Cooked1 d p h =
    header_if (nat_lt (length p.octets) 16) direction.Unknown
    (record { carried = by_cooked (protocol_at 14 p.octets) (after 16 p); direction = direction_of (slice_index p.octets 1); source = take (min (slice_index p.octets 5) 8) (drop 6 p.octets); index = None })
    (cooked_carried (protocol_at 14 p.octets) (after 16 p) (bytes_drop 16 p.octets h))
header_carried kind.Cooked2 d p h =
    header_if (nat_lt (length p.octets) 20) direction.Unknown
    (record { carried = by_cooked (protocol_at 0 p.octets) (after 20 p); direction = direction_of (slice_index p.octets 10); source = take (min (slice_index p.octets 11) 8) (drop 12 p.octets); index = Some (index_of p.octets) })
    (cooked_carried (protocol_at 0 p.octets) (after 20 p) (bytes_drop 20 p.octets h))
header_carried kind.Internet d p h = tt
header_carried kind.Loopback d p h = tt
header_carried kind.Ppp d p h = ppp_carried p h
header_carried kind.Cisco d p h = cisco_carried p h
header_carried kind.Lapb d p h = h
header_carried kind.DirectedLapb d p h = directed_carried p.octets (Lapb (after 1 p)) (bytes_drop 1 p.octets h)
header_carried kind.CheckedLapb d p h = h
header_carried kind.Packet d p h = h
header_carried kind.DirectedPacket d p h = directed_carried p.octets (Packet (after 1 p)) (bytes_drop 1 p.octets h)

-- ---- what a frame gives

abbrev pub IsGiven : Given → Type 0
IsGiven (given.Packet s octets) = IsBytes octets × (length octets ≤ 4200)
IsGiven (given.Gap c r) = IfSome c (λ k. (1 ≤ k) × (k ≤ 4095))
IsGiven (given.Held s octets cut) = IsBytes octets
IsGiven (given.OfLink k) = Unit {0}
IsGiven (given.LeftOut r) = Unit {0}

abbrev channel_if : Bool → ℕ → Option ℕ
channel_if none n = if none then None else Some n

some_channel_is : (n : ℕ) → n ≤ 4095 → IfSome (some_channel n) (λ k. (1 ≤ k) × (k ≤ 4095))
some_channel_is n few = at (n == 0) refl
  where
    at : (none : Bool) → (n == 0) ≡ none → IfSome (channel_if none n) (λ k. (1 ≤ k) × (k ≤ 4095))
    at true e = tt
    at false e = (grind (arith, nat_tests, e), few)

lost_given : (octets : List ℕ) (r : Reason) → IsBytes octets → IsGiven (lost octets r)
lost_given [] r h = tt
lost_given (a ∷ []) r h = tt
lost_given (a ∷ b ∷ xs) r h = let low : b < 256 = h 1 in some_channel_is (a % 16 * 256 + b) (omega (arith, low))

pub packet_given : (s : Side) (octets : List ℕ) (cut : Bool) → IsBytes octets → IsGiven (packet_or_gap s octets cut)
packet_given s octets true h = lost_given octets reason.CutPacket h
packet_given s octets false h = at (nat_lt 4200 (length octets)) refl
  where
    at : (b : Bool) → nat_lt 4200 (length octets) ≡ b → IsGiven (if b then lost octets reason.LongPacket else given.Packet s octets)
    at true e = lost_given octets reason.LongPacket h
    at false e = (h, grind (arith, nat_tests, e))

pub record IsFrameRead (r : Read) : Type 0 where
  pub after : HoldsFrames r.after.link
  pub shown : AreShown r.shown
  pub given : IsGiven r.read.given

read_if : (b : Bool) (r s : Read) → IsFrameRead r → IsFrameRead s → IsFrameRead (if b then r else s)
read_if true r s h k = h
read_if false r s h k = k

nothing_read : (r : Reason) (l : Line) → HoldsFrames l.link → IsFrameRead (nothing r l)
nothing_read r l h = record { after = h; shown = tt; given = tt }

as_given_is : (s : Option Sender) (cut : Bool) (w : links.What) → IsWhat w → IsGiven (as_given s cut w)
as_given_is (Some s) cut (links.Packet p) h = packet_given s.side p cut h
as_given_is None cut (links.Packet p) h = lost_given p reason.NoSide h
as_given_is (Some s) cut (links.Held p) h = h
as_given_is None cut (links.Held p) h = lost_given p reason.NoSide h
as_given_is s cut (links.OfLink k) h = tt
as_given_is s cut (links.LeftOut r) h = tt

lapb_is : (f : LinkFrame) (l : Line) → IsPlace f.place → IsBytes f.octets → HoldsFrames l.link → IsFrameRead (lapb_read f l)
lapb_is f l place bytes h =
    let r = link_frame_is f l.link place bytes h in
    let taken = (links.read f l.link).taken in
    read_if (is_chosen l.choices carrier.Lapb) (link_read f l) (nothing reason.OtherCarrier l) (record { after = r.after; shown = r.shown; given = as_given_is taken.sender f.is_cut taken.what r.what }) (nothing_read reason.OtherCarrier l h)

shortened_bytes : (most : ℕ) (xs : List ℕ) → IsBytes xs → IsBytes (shortened most xs)
shortened_bytes most xs h = at (nat_lt most (length xs))
  where
    at : (b : Bool) → IsBytes (if b then take most xs else xs)
    at true = bytes_take most xs h
    at false = h

link_is : (l : Line) (p : Place) (g : LinkHeader) (octets : List ℕ) (cut : Bool) → IsPlace p → IsBytes octets → HoldsFrames l.link → IsFrameRead (lapb_read (link_frame l p g octets cut) l)
link_is l p g octets cut place bytes h = lapb_is (link_frame l p g octets cut) l place (shortened_bytes 4204 octets bytes) h

unflagged_bytes : (xs : List ℕ) → IsBytes xs → IsBytes (unflagged xs)
unflagged_bytes [] h = h
unflagged_bytes (x ∷ xs) h = at (x == 0x7E) (unflagged_bytes xs (λ k. h (suc k)))
  where
    at : (b : Bool) → IsBytes (unflagged xs) → IsBytes (if b then unflagged xs else x ∷ xs)
    at true later = later
    at false later = h

checked_is : (p : Place) (g : LinkHeader) (octets : Option (List ℕ)) (l : Line) → IsPlace p → IfSome octets IsBytes → HoldsFrames l.link → IsFrameRead (checked_read p g octets l)
checked_is p g None l place bytes h = nothing_read reason.BadCheckSequence l h
checked_is p g (Some octets) l place bytes h = link_is l p g octets false place bytes h

unframed_bytes : (p : Payload) → IsBytes p.octets → IfSome (unframed_whole p) IsBytes
unframed_bytes p h = at (nat_lt (length p.octets) p.length)
  where
    cut : (end : Option ℕ) → IfSome (option_map (λ end. take (end - 2) (unflagged p.octets)) end) IsBytes
    cut None = tt
    cut (Some end) = bytes_take (end - 2) (unflagged p.octets) (unflagged_bytes p.octets h)

    at : (b : Bool) → IfSome (if b then None else unframed p.octets) IsBytes
    at true = tt
    at false = cut (checked_end (unflagged p.octets))

packet_by_given : (s : Option Side) (p : Payload) → IsBytes p.octets → IsGiven (packet_by s p)
packet_by_given None p h = lost_given p.octets reason.NoSide h
packet_by_given (Some s) p h = packet_given s p.octets (nat_lt (length p.octets) p.length) h

packet_is : (d : Direction) (p : Payload) (l : Line) → IsBytes p.octets → HoldsFrames l.link → IsFrameRead (packet_read d p l)
packet_is d p l bytes h =
    read_if (is_chosen l.choices carrier.Packet) (record { after = record l { may_miss = false }; shown = []; read = record { sender = None; gap_before = l.may_miss; given = packet_by (side_of l.choices.host d) p } }) (nothing reason.OtherCarrier l)
    (record { after = h; shown = tt; given = packet_by_given (side_of l.choices.host d) p bytes }) (nothing_read reason.OtherCarrier l h)

device_bytes : (xs : List ℕ) (n : ℕ) → IsBytes xs → IsBytes (device_octets xs n).octets
device_bytes [] n h = h
device_bytes (x ∷ xs) n h = at (x == 0)
  where
    at : (b : Bool) → IsBytes (if b then payload_of xs (n - 1) else payload_of (x ∷ xs) n).octets
    at true = λ k. h (suc k)
    at false = h

device_is : (r : Option Reason) (d : Direction) (p : Payload) (l : Line) → IsBytes p.octets → HoldsFrames l.link → IsFrameRead (device_read r d p l)
device_is (Some r) d p l bytes h = nothing_read r l h
device_is None d p l bytes h = packet_is d (device_packet p) l (device_bytes p.octets p.length bytes) h

-- by what a header says it carries
carried_is : (p : Place) (l : Line) (c : Carried) (d : Direction) (s : List ℕ) (n : Option ℕ) → IsPlace p → IsCarried c → HoldsFrames l.link
    → IsFrameRead (carried_read p (record { carried = c; direction = d; source = s; index = n }) l)
unfolding carried_read
carried_is p l (Lapb q) d s n place bytes h = link_is l p (record { carried = Lapb q; direction = d; source = s; index = n }) q.octets (nat_lt (length q.octets) q.length) place bytes h
carried_is p l (CheckedLapb q) d s n place bytes h = checked_is p (record { carried = CheckedLapb q; direction = d; source = s; index = n }) (unframed_whole q) l place (unframed_bytes q bytes) h
carried_is p l (Packet q) d s n place bytes h = packet_is d q l bytes h
carried_is p l (Device q) d s n place bytes h = device_is (device_word q.octets) d q l bytes h
carried_is p l (Internet q) d s n place bytes h = nothing_read reason.OtherProtocol l h
carried_is p l Other d s n place bytes h = nothing_read reason.OtherProtocol l h
carried_is p l Unknown d s n place bytes h = nothing_read reason.OtherProtocol l h
carried_is p l Cut d s n place bytes h = nothing_read reason.BadHeader (record l { may_miss = true }) h

pub frame_is : (f : Frame) (l : Line) → IsPlace (record { frame = f.number; time = f.time }) → IsBytes f.octets → HoldsFrames l.link → IsFrameRead (frame_read f l)
frame_is f l place bytes h = at (kind_of l.choices f.link)
  where
    at : (k : Option LinkKind) → IsFrameRead (kind_read f k l)
    at None = nothing_read (reason.UnknownLink f.link) l h
    at (Some k) =
        let g = header_of k f in
        let n = unwrap_or g.index f.interface in
        read_if (is_on l.choices n) (carried_read (record { frame = f.number; time = f.time }) g l) (nothing (reason.OtherInterface n) l)
        (carried_is (record { frame = f.number; time = f.time }) l g.carried g.direction g.source g.index place (header_carried k f.direction (record { octets = f.octets; length = f.length }) bytes) h) (nothing_read (reason.OtherInterface n) l h)
