-- What the frames of a line give, one after the other.
use Rattle.std.specs.Prelude.{ℕ, Bool, true, false, nat_lt, List, [], length, take, Option, Some, None, unwrap_or, if◌then◌else◌}
use Rattle.line_model.specs.channels.Channels.{other}
use Rattle.line_model.specs.declared.state.Side.{Side}
use Rattle.capture_model.specs.Frames.{Frame}
use Rattle.capture_model.specs.declared.frame.Direction.{Direction}
use Rattle.capture_model.specs.declared.frame.Direction.TheVariants as direction
use Rattle.capture_model.specs.declared.reason.Reason.{Reason}
use Rattle.capture_model.specs.declared.reason.Reason.TheVariants as reason
use Rattle.capture_model.specs.Views.{Payload, Internet, Lapb, CheckedLapb, Packet, Device, Other, Cut, Unknown}
use Rattle.capture_model.specs.Devices.{device_packet, device_word}
use Rattle.capture_model.specs.HeaderViews.{LinkHeader}
use Rattle.capture_model.specs.LinkHeaders.{header_of}
use Rattle.capture_model.specs.declared.kind.LinkKind.{LinkKind}
use Rattle.lapb_link.specs.Checks.{unframed}
use Rattle.lapb_link.specs.Links as links
use Rattle.lapb_link.specs.Links.{LinkFrame}
use Rattle.lapb_link.specs.declared.ends.Sender.{Sender}
use Rattle.lapb_link.specs.declared.frames.Place.{Place}
use Rattle.lapb_link.specs.declared.receiver.Shown.{Shown}
use Rattle.capture_rows.specs.Choosing.{is_chosen, is_on, kind_of}
use Rattle.capture_rows.specs.Givens as given
use Rattle.capture_rows.specs.Givens.{Given, given_view, lost, packet_or_gap}
use Rattle.capture_rows.specs.Stations.{station_of}
use Rattle.capture_rows.specs.declared.choices.Carrier.TheVariants as carrier
use Rattle.capture_rows.specs.declared.line.FrameRead as declared
use Rattle.capture_rows.specs.declared.line.Line.{Line}

-- what a frame gives, and whether packets of any channel may be missing before it
pub record FrameRead : Type 0 where
  pub sender : Option Sender
  pub gap_before : Bool
  pub given : Given

abbrev pub read_view : declared.FrameRead → FrameRead
read_view r = record { sender = r.sender; gap_before = r.gap_before; given = given_view r.given }

-- what a frame does to a line: the line after it, what it shows of frames before it, and what it gives
pub record Read : Type 0 where
  pub after : Line
  pub shown : List Shown
  pub read : FrameRead

abbrev pub alone : Given → FrameRead
alone g = record { sender = None; gap_before = false; given = g }

abbrev pub nothing : Reason → Line → Read
nothing r l = record { after = l; shown = []; read = alone (given.LeftOut r) }

-- so many octets at the most
abbrev pub shortened : (most : ℕ) → List ℕ → List ℕ
shortened most octets = if nat_lt most (length octets) then take most octets else octets

-- what a LAPB frame gives
abbrev pub as_given : Option Sender → (cut : Bool) → links.What → Given
as_given (Some s) cut (links.Packet p) = packet_or_gap s.side p cut
as_given None cut (links.Packet p) = lost p reason.NoSide
as_given (Some s) cut (links.Held p) = given.Held s.side p cut
as_given None cut (links.Held p) = lost p reason.NoSide
as_given s cut (links.OfLink k) = given.OfLink k
as_given s cut (links.LeftOut r) = given.LeftOut r

abbrev pub link_read : LinkFrame → Line → Read
link_read f l = let r = links.read f l.link in record {
  after = record l { link = r.after };
  shown = r.shown;
  read = record { sender = r.taken.sender; gap_before = false; given = as_given r.taken.sender f.is_cut r.taken.what };
}

-- a LAPB frame, where its link is read
abbrev pub lapb_read : LinkFrame → Line → Read
lapb_read f l = if is_chosen l.choices carrier.Lapb then link_read f l else nothing reason.OtherCarrier l

-- the frame for its link, by its octets from the address on; no row has room for more of them
abbrev pub link_frame : Line → Place → LinkHeader → List ℕ → (cut : Bool) → LinkFrame
link_frame l p h octets cut = record { place = p; source = station_of l.choices.station_by h; octets = shortened 4204 octets; is_cut = cut }

-- the octets of a frame with its check sequence, where it was recorded whole
abbrev pub unframed_whole : Payload → Option (List ℕ)
unframed_whole p = if nat_lt (length p.octets) p.length then None else unframed p.octets

abbrev pub checked_read : Place → LinkHeader → Option (List ℕ) → Line → Read
checked_read p h None l = nothing reason.BadCheckSequence l
checked_read p h (Some octets) l = lapb_read (link_frame l p h octets false) l

-- a packet without a link header: its side is that of the host that sent it
abbrev pub side_of : Side → Direction → Option Side
side_of host direction.Unknown = None
side_of host direction.Sent = Some host
side_of host direction.Received = Some (other host)

abbrev pub packet_by : Option Side → Payload → Given
packet_by None p = lost p.octets reason.NoSide
packet_by (Some s) p = packet_or_gap s p.octets (nat_lt (length p.octets) p.length)

abbrev pub packet_read : Direction → Payload → Line → Read
packet_read d p l = if is_chosen l.choices carrier.Packet
    then record {
      after = record l { may_miss = false };
      shown = [];
      read = record { sender = None; gap_before = l.may_miss; given = packet_by (side_of l.choices.host d) p };
    }
    else nothing reason.OtherCarrier l

abbrev pub device_read : Option Reason → Direction → Payload → Line → Read
device_read (Some r) d p l = nothing r l
device_read None d p l = packet_read d (device_packet p) l

-- a frame by its link header
unfoldable pub carried_read : Place → LinkHeader → Line → Read
carried_read p h l = elim h.carried [
  | Lapb payload ↦ lapb_read (link_frame l p h payload.octets (nat_lt (length payload.octets) payload.length)) l
  | CheckedLapb payload ↦ checked_read p h (unframed_whole payload) l
  | Packet payload ↦ packet_read h.direction payload l
  | Device payload ↦ device_read (device_word payload.octets) h.direction payload l
  | Internet payload ↦ nothing reason.OtherProtocol l
  | Other ↦ nothing reason.OtherProtocol l
  | Unknown ↦ nothing reason.OtherProtocol l
  | Cut ↦ nothing reason.BadHeader (record l { may_miss = true })
]

abbrev pub chosen : Place → (interface : ℕ) → LinkHeader → Line → Read
chosen p n h l = if is_on l.choices n then carried_read p h l else nothing (reason.OtherInterface n) l

abbrev pub kind_read : Frame → Option LinkKind → Line → Read
kind_read f None l = nothing (reason.UnknownLink f.link) l
kind_read f (Some k) l = let h = header_of k f in chosen (record { frame = f.number; time = f.time }) (unwrap_or h.index f.interface) h l

-- a frame
abbrev pub frame_read : Frame → Line → Read
frame_read f l = kind_read f (kind_of l.choices f.link) l
