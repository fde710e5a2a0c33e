-- Which sides of a line were recorded.
use Rattle.std.specs.Prelude.{◌&&◌, ◌||◌, Bool, true, false, not, List, [], ◌∷◌, Option, None, Some, if◌then◌else◌}
use Rattle.capture_model.specs.Frames.{Frame}
use Rattle.capture_rows.specs.Givens as given
use Rattle.capture_rows.specs.Givens.{Given, packet_or_gap}
use Rattle.capture_rows.specs.Lines.{FrameRead}
use Rattle.lapb_link.specs.declared.ends.Sender.{Sender}
use Rattle.lapb_link.specs.declared.receiver.Shown.{Shown}
use Rattle.lapb_link.specs.declared.receiver.Shown.TheVariants as shown
use Rattle.line_model.specs.channels.Channels.{other}
use Rattle.line_model.specs.declared.state.Side.{Side}
use Rattle.line_model.specs.declared.state.Side.TheVariants.{T, N}
use Rattle.capture_report.specs.declared.line_sides.LineHalf.{LineHalf}
use Rattle.capture_report.specs.declared.line_sides.LineSides.{LineSides}
use Rattle.capture_report.specs.declared.line_sides.SideRecorded.{SideRecorded}

abbrev pub no_side : SideRecorded
no_side = record { has_packet = false; has_frame = false; is_missing = false }

abbrev pub no_sides : LineSides
no_sides = record { of_t = no_side; of_n = no_side }

abbrev pub side_of : Side → LineSides → SideRecorded
side_of T l = l.of_t
side_of N l = l.of_n

abbrev pub with_side : Side → SideRecorded → LineSides → LineSides
with_side T r l = record l { of_t = r }
with_side N r l = record l { of_n = r }

-- a packet of a side, and I frames of it that were not recorded
abbrev pub packet_of : Side → LineSides → LineSides
packet_of s l = with_side s (record (side_of s l) { has_packet = true }) l

abbrev pub lost_of : Side → LineSides → LineSides
lost_of s l = with_side s (record (side_of s l) { is_missing = true }) l

-- a LAPB frame. Where it shows that both ends have one address, the frames before it that seemed to lack others may have been of the other side
abbrev pub frame_of : Sender → LineSides → LineSides
frame_of s l = with_side s.side (record (side_of s.side l) { has_frame = true; is_missing = (side_of s.side l).is_missing && not s.is_news }) l

abbrev pub sent_by : Option Sender → LineSides → LineSides
sent_by None l = l
sent_by (Some s) l = frame_of s l

-- what a frame gives, and what it shows of frames before it
abbrev pub given_recorded : Given → LineSides → LineSides
given_recorded (given.Packet s octets) l = packet_of s l
given_recorded (given.Gap c r) l = l
given_recorded (given.Held s octets cut) l = l
given_recorded (given.OfLink k) l = l
given_recorded (given.LeftOut r) l = l

abbrev pub shown_recorded : Shown → LineSides → LineSides
shown_recorded (shown.Accepted h) l = given_recorded (packet_or_gap h.side h.octets h.is_cut) l
shown_recorded (shown.Lost s n to) l = lost_of s l
shown_recorded (shown.Gap g) l = l
shown_recorded (shown.Refused n) l = l

abbrev pub all_shown_recorded : List Shown → LineSides → LineSides
all_shown_recorded [] l = l
all_shown_recorded (x ∷ xs) l = all_shown_recorded xs (shown_recorded x l)

abbrev pub read_recorded : List Shown → FrameRead → LineSides → LineSides
read_recorded xs r l = given_recorded r.given (all_shown_recorded xs (sent_by r.sender l))

abbrev pub frame_recorded : Option Frame → List Shown → Option FrameRead → LineSides → LineSides
frame_recorded None xs r l = l
frame_recorded (Some f) xs None l = l
frame_recorded (Some f) xs (Some r) l = read_recorded xs r l

-- a side alone was recorded: the other one has no packet, and no frame, or some of its I frames are missing
abbrev pub is_alone : (own other : SideRecorded) → Bool
is_alone own other = own.has_packet && (not other.has_packet && (not other.has_frame || other.is_missing))

-- the side of the trace that a side of the capture is
abbrev pub side_named : (swapped : Bool) → Side → Side
side_named swapped s = if swapped then other s else s

abbrev pub half_of : (swapped : Bool) → LineSides → Option LineHalf
half_of swapped l = if is_alone l.of_t l.of_n then Some (record { side = side_named swapped T; is_link = l.of_t.has_frame })
    else if is_alone l.of_n l.of_t then Some (record { side = side_named swapped N; is_link = l.of_n.has_frame }) else None
