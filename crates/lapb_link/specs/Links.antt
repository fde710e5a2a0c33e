-- A link: the frames of both directions.
use Rattle.std.specs.Prelude.{ℕ, ◌&&◌, ◌||◌, Bool, true, false, not, min, List, [], ◌++◌, Option, Some, None, is_some, slice_index, if◌then◌else◌}
use Rattle.std.specs.List.{list_any}
use Rattle.line_model.specs.channels.Channels.{other}
use Rattle.line_model.specs.declared.state.Side.{Side}
use Rattle.line_model.specs.declared.state.Side.TheVariants.{T, N}
use Rattle.capture_model.specs.declared.reason.Reason.{Reason}
use Rattle.capture_model.specs.declared.reason.Reason.TheVariants as reason
use Rattle.lapb_link.specs.Controls.{command_side, control_of, is_command, is_set_up, modulus_after}
use Rattle.lapb_link.specs.Ends.{known, sender_from}
use Rattle.lapb_link.specs.Frames.{IFrame}
use Rattle.lapb_link.specs.Receiving as receiving
use Rattle.lapb_link.specs.Receiving.{Step, forgotten, gap_if, held_shown, informed, is_holding, set_up_again, supervised, unknown}
use Rattle.lapb_link.specs.declared.modulus.Modulus.{Modulus}
use Rattle.lapb_link.specs.declared.modulus.Modulus.TheVariants.{Basic}
use Rattle.lapb_link.specs.declared.control.Control.{Control}
use Rattle.lapb_link.specs.declared.control.Control.TheVariants as control
use Rattle.lapb_link.specs.declared.control.Supervisory.TheVariants.{Rr}
use Rattle.lapb_link.specs.declared.control.SupervisoryField.{SupervisoryField}
use Rattle.lapb_link.specs.declared.control.Unnumbered.{Unnumbered}
use Rattle.lapb_link.specs.declared.frames.Place.{Place}
use Rattle.lapb_link.specs.declared.frames.Reading.{Reading}
use Rattle.lapb_link.specs.declared.receiver.Fate.{Fate}
use Rattle.lapb_link.specs.declared.receiver.Fate.TheVariants as fate
use Rattle.lapb_link.specs.declared.receiver.Receiver.{Receiver}
use Rattle.lapb_link.specs.declared.receiver.Shown.{Shown}
use Rattle.lapb_link.specs.declared.receiver.Shown.TheVariants as shown
use Rattle.lapb_link.specs.declared.link.Link.{Link}
use Rattle.lapb_link.specs.declared.link.LinkFrame as declared_frame
use Rattle.lapb_link.specs.declared.ends.Ends.{Ends}
use Rattle.lapb_link.specs.declared.ends.Sender.{Sender}
use Rattle.lapb_link.specs.declared.link.Taken as declared
use Rattle.lapb_link.specs.declared.link.What as declared_what

-- a frame of a link without where its octets lie in memory
pub record LinkFrame : Type 0 where
  pub place : Place
  -- the number of the station that sent it
  pub source : Option ℕ
  pub octets : List ℕ
  pub is_cut : Bool

abbrev pub link_frame_view : declared_frame.LinkFrame → LinkFrame
link_frame_view f = record { place = f.place; source = f.source; octets = f.octets.now; is_cut = f.is_cut }

-- what a frame is, with its octets
pub data What : Type 0 where
  Packet : List ℕ → What
  Held : List ℕ → What
  OfLink : Unnumbered → What
  LeftOut : Reason → What

pub record Taken : Type 0 where
  pub sender : Option Sender
  pub what : What

abbrev pub what_view : declared_what.What → What
what_view (declared_what.TheVariants.Packet p) = Packet p.now
what_view (declared_what.TheVariants.Held p) = Held p.now
what_view (declared_what.TheVariants.Unnumbered k) = OfLink k
what_view (declared_what.TheVariants.LeftOut r) = LeftOut r

abbrev pub taken_view : declared.Taken → Taken
taken_view t = record { sender = t.sender; what = what_view t.what }

-- what a frame does to a link: the link after it, what it shows of frames before it, and what it is
pub record Read : Type 0 where
  pub after : Link
  pub shown : List Shown
  pub taken : Taken

abbrev pub surely : Side → Sender
surely s = record { side = s; is_news = false; is_contradiction = false }

abbrev pub no_packet : Option Sender → Reason → Taken
no_packet sender r = record { sender = sender; what = LeftOut r }

abbrev pub leaves_out : Reason → Link → Read
leaves_out r l = record { after = l; shown = []; taken = no_packet None r }

abbrev pub first_modulus : Option Modulus → Modulus
first_modulus None = Basic
first_modulus (Some m) = m

abbrev pub new_link : Option Modulus → Ends → Link
new_link m ends = record { modulus = first_modulus m; learns = not (is_some m); ends = ends; last_gap = 0; of_t = unknown; of_n = unknown }

-- a supervisory frame of an unknown station is a response, where its P/F bit is 0
abbrev pub supervisor : Bool → Side → Option Side → Option Side
supervisor last s (Some d) = Some d
supervisor last s None = if last then None else Some (other s)

-- the receiver of the frames of a side
abbrev pub receiver_of : Side → Link → Receiver
receiver_of T l = l.of_t
receiver_of N l = l.of_n

abbrev pub with_receiver : Side → Receiver → Link → Link
with_receiver T r l = record l { of_t = r }
with_receiver N r l = record l { of_n = r }

abbrev pub reading_of : Side → Place → Link → Reading
reading_of s p l = record { side = s; modulus = l.modulus; place = p; last_gap = l.last_gap }

-- who sent a frame; an RR of its end may have been read as one of the other end, where it shows that both have one address
pub record Identified : Type 0 where
  pub sender : Sender
  pub after : Link

abbrev pub with_news : Sender → Link → Link
with_news s l = if s.is_news then with_receiver s.side (forgotten (receiver_of s.side l)) l else l

unfoldable pub identified : Option ℕ → Side → Link → Identified
identified source a l = let s = sender_from source a l.ends in record { sender = s.sender; after = with_news s.sender (record l { ends = s.after }) }

-- after a gap, or a packet that was cut
abbrev pub is_gap : Shown → Bool
is_gap (shown.Gap g) = true
is_gap (shown.Accepted h) = h.is_cut
is_gap x = false

abbrev pub marked : ℕ → List Shown → Link → Link
marked frame xs l = if list_any is_gap xs then record l { last_gap = frame } else l

abbrev pub linked : Side → Place → Step → Link → Link
linked s p step l = marked p.frame step.shown (with_receiver s step.after l)

abbrev pub is_accepted : Fate → Bool
is_accepted fate.Accepted = true
is_accepted f = false

-- what becomes of an I frame
abbrev pub what_of : Fate → List ℕ → What
what_of fate.Accepted packet = Packet packet
what_of fate.Held packet = Held packet
what_of fate.Repeated packet = LeftOut reason.RepeatedFrame

abbrev pub cut_marked : Bool → ℕ → Link → Link
cut_marked cut frame l = if cut then record l { last_gap = frame } else l

abbrev pub informed_on : Side → Place → IFrame → Link → receiving.Read
informed_on s p i l = informed (reading_of s p l) i (receiver_of s l)

abbrev pub told : Side → Place → IFrame → Link → Link
told s p i l = let r = informed_on s p i l in cut_marked (i.is_cut && is_accepted r.fate) p.frame (marked p.frame r.shown (with_receiver s r.after l))

abbrev pub supervised_on : Side → Place → SupervisoryField → Bool → Link → Step
supervised_on s p c proves l = supervised (reading_of s p l) c proves (receiver_of s l)

-- an I frame: its N(R), and then its N(S)
unfoldable pub information_read : Sender → (receive : ℕ) → IFrame → Link → Read
information_read s receive i l =
    let field : SupervisoryField = record { kind = Rr; receive = receive; last = false } in
    let a = supervised_on (other s.side) i.place field true l in
    let m = linked (other s.side) i.place a l in
    let b = informed_on s.side i.place i m in
    record { after = told s.side i.place i m; shown = a.shown ++ b.shown; taken = record { sender = Some s; what = what_of b.fate i.octets } }

-- a supervisory frame; where it may be a command or a response, it proves no loss
abbrev pub supervisory_by : LinkFrame → SupervisoryField → Option Side → Link → Read
supervisory_by f c None l = leaves_out reason.LinkFrame l
supervisory_by f c (Some s) l = let a = supervised_on (other s) f.place c (is_some (known f.source l.ends)) l in
    record { after = linked (other s) f.place a l; shown = a.shown; taken = no_packet (Some (surely s)) reason.LinkFrame }

unfoldable pub supervisory_read : LinkFrame → Side → SupervisoryField → Link → Read
supervisory_read f s c l = supervisory_by f c (supervisor c.last s (known f.source l.ends)) l

-- a frame that sets the link up: held frames may have been accepted, with those before them
abbrev pub is_link_holding : Link → Bool
is_link_holding l = is_holding l.of_t || is_holding l.of_n

-- the last frame up to which nothing is missing of a side with held frames
abbrev pub held_since : Link → ℕ
held_since l = if is_holding l.of_t then (if is_holding l.of_n then min l.of_t.since l.of_n.since else l.of_t.since) else l.of_n.since

abbrev pub link_set_up : Place → Link → Link
link_set_up p l = record l {
  of_t = (set_up_again (reading_of T p l) l.of_t).after;
  of_n = (set_up_again (reading_of N p l) l.of_n).after;
  last_gap = if is_link_holding l then p.frame else l.last_gap;
}

abbrev pub set_up_shown : Place → Link → List Shown
set_up_shown p l = held_shown l.of_t ++ (held_shown l.of_n ++ gap_if (is_link_holding l) (held_since l) p)

-- an unnumbered frame
abbrev pub unnumbered_by : Sender → Place → Unnumbered → Link → Read
unnumbered_by s p k l = record {
  after = if is_set_up k then link_set_up p l else l;
  shown = if is_set_up k then set_up_shown p l else [];
  taken = record { sender = Some s; what = OfLink k };
}

unfoldable pub unnumbered_read : LinkFrame → Side → Unnumbered → Link → Read
unnumbered_read f s k l =
    let i = identified f.source (if is_command k then s else other s) l in
    let m = i.after in
    unnumbered_by i.sender f.place k (record m { modulus = if m.learns then modulus_after k m.modulus else m.modulus })

-- a frame
abbrev pub by_control : LinkFrame → Side → (packet : List ℕ) → Link → Control → Read
by_control f s packet l (control.Information send receive) =
    let i = identified f.source s l in information_read i.sender receive (record { send = send; place = f.place; octets = packet; is_cut = f.is_cut }) i.after
by_control f s packet l (control.Supervisory c) = supervisory_read f s c l
by_control f s packet l (control.Unnumbered None) = leaves_out reason.LinkFrame l
by_control f s packet l (control.Unnumbered (Some k)) = unnumbered_read f s k l

abbrev pub addressed : LinkFrame → Control × List ℕ → (address : ℕ) → Option Side → Link → Read
addressed f c a None l = leaves_out (reason.OtherAddress a) l
addressed f c a (Some s) l = by_control f s c.1 l c.0

abbrev pub controlled : LinkFrame → Option (Control × List ℕ) → Link → Read
controlled f None l = leaves_out reason.BadHeader l
controlled f (Some c) l = let a = slice_index f.octets 0 in addressed f c a (command_side a) l

abbrev pub read : LinkFrame → Link → Read
read f l = controlled f (control_of l.modulus f.octets) l
