-- The segments of XOT in the frames of a capture, and the items of their connections.
use Rattle.std.specs.Prelude.{ℕ, zero, suc, ◌^◌, ◌%◌, ◌==◌, ◌&&◌, ◌||◌, nat_lt, min, not, Bool, List, [], ◌∷◌, ◌++◌, length, Option, None, Some, unwrap_or, Result, Ok, Err, if◌then◌else◌}
use Rattle.std.specs.Int.Digits.{number_from_digits}
use Rattle.std.specs.Option.{option_or, option_to_list}
use Rattle.std.specs.Result.{result_map_both}
use Rattle.capture_model.specs.Frames.{Frame}
use Rattle.capture_model.specs.Kinds.{kind_of_link}
use Rattle.capture_model.specs.LinkHeaders.{header_of}
use Rattle.capture_model.specs.Views.{Payload}
use Rattle.capture_model.specs.declared.kind.LinkKind.{LinkKind}
use Rattle.capture_rows.specs.Choosing.{is_on_by}
use Rattle.ip_segments.specs.Carriers.{Inner, in_datagram, in_frame}
use Rattle.ip_segments.specs.CarrierViews.{inner_view}
use Rattle.ip_segments.specs.Datagrams.{Datagram, datagram_of}
use Rattle.ip_segments.specs.Fragments.{Outcome, added}
use Rattle.ip_segments.specs.Segments.{Segment, segment_of}
use Rattle.ip_segments.specs.Views.{datagram_view}
use Rattle.ip_segments.specs.declared.carriers.CarrierFault.{CarrierFault}
use Rattle.ip_segments.specs.declared.datagram.Fragment.{Fragment}
use Rattle.ip_segments.specs.declared.fault.HeaderFault.{HeaderFault}
use Rattle.ip_segments.specs.declared.fragments.Added.{Added}
use Rattle.ip_segments.specs.declared.fragments.Added.TheVariants as is
use Rattle.ip_segments.specs.declared.gathered.Gathered.{Gathered}
use Rattle.tcp_streams.specs.declared.ends.Endpoint.{Endpoint}
use Rattle.tcp_streams.specs.declared.ends.Ends.{Ends}
use Rattle.tcp_streams.specs.declared.piece.Recorded.{Recorded}
use Rattle.xot_circuits.specs.Items.{Item}
use Rattle.xot_circuits.specs.Recordings.{Recorder, Seen, closed, new_recorder, read_of, recorder_of, recording_items, seen_view}
use Rattle.xot_circuits.specs.Roles.{is_of}
use Rattle.xot_circuits.specs.declared.roles.Roles.{Roles}
use Rattle.capture_report.specs.FrameUses.{use_of_carrier, use_of_fragment, use_of_segment}
use Rattle.capture_report.specs.PortSights.{port_sight}
use Rattle.capture_report.specs.Records.{Record}
use Rattle.capture_report.specs.declared.options.CaptureOptions.{CaptureOptions}
use Rattle.capture_report.specs.declared.reasons.FrameUse.{FrameUse}
use Rattle.capture_report.specs.declared.reasons.FrameUse.TheVariants as becomes
use Rattle.capture_report.specs.declared.xot_frames.Found as declared_found
use Rattle.capture_report.specs.declared.xot_frames.Whole as declared_whole
use Rattle.capture_report.specs.declared.xot_frames.XotChoices.{XotChoices}
use Rattle.capture_report.specs.declared.xot_frames.XotFrames.{XotFrames}

-- which frames are read, the datagrams of which fragments wait, and the connections
pub record XotReader : Type 0 where
  pub choices : XotChoices
  pub waiting : List Gathered
  pub recorder : Recorder

abbrev pub reader_of : XotFrames → XotReader
reader_of x = record { choices = x.choices; waiting = x.fragments; recorder = recorder_of x.recording }

-- the host that options choose is the DTE, and otherwise the openers of the connections are; or the other ends are
abbrev pub roles_of : CaptureOptions → Roles
roles_of o = record { dte = o.dte; is_swapped = o.is_swapped }

abbrev pub choices_of : CaptureOptions → XotChoices
choices_of o = record { unknown = o.choices.unknown; interface = o.choices.interface; port = o.port; dte = o.dte }

abbrev pub new_reader : CaptureOptions → XotReader
new_reader o = record { choices = choices_of o; waiting = []; recorder = new_recorder (roles_of o) }

-- ---- the ends of a segment

-- an address, the first octet as the highest one, of 128 bits
abbrev pub address_of : List ℕ → ℕ
address_of xs = number_from_digits 256 xs % 2 ^ 128

abbrev pub endpoint : List ℕ → (port : ℕ) → Endpoint
endpoint xs port = record { is_version_6 = nat_lt 4 (length xs); address = address_of xs; port = port }

abbrev pub ends_of : Datagram → Segment → Ends
ends_of d s = record { first = endpoint d.source s.source; second = endpoint d.target s.target }

-- a segment is one of XOT by a port of it; its sender answers connections where its port alone is that of XOT
abbrev pub is_xot : XotChoices → Segment → Bool
is_xot c s = s.source == c.port || s.target == c.port

abbrev pub is_from_server : XotChoices → Segment → Bool
is_from_server c s = s.source == c.port && not (s.target == c.port)

-- where a host of the DTE is chosen, it is one of the two that are connected
abbrev pub has_host : XotChoices → Ends → Bool
has_host c e = is_of c.dte e.first || is_of c.dte e.second

abbrev pub seen_in : XotChoices → Recorded → Datagram → Segment → Seen
seen_in c at d s = record { ends = ends_of d s; is_from_server = is_from_server c s; segment = s; recorded = at }

-- ---- a whole datagram

-- what is read of a datagram: the whole one, or why there is none, and the datagrams of which fragments wait after it
pub record Completed : Type 0 where
  pub whole : Result Datagram FrameUse
  pub waiting : List Gathered

-- the datagram that fragments make whole with these octets; none has more than 65,535
abbrev pub joined : Datagram → List ℕ → Datagram
joined d xs = record d { fragment = None; payload = record { octets = xs; length = min (length xs) 0xFFFF } }

abbrev pub joined_by : Datagram → Added → Result Datagram FrameUse
joined_by d (is.Whole xs) = Ok (joined d xs)
joined_by d (is.LeftOut x) = Err (use_of_fragment x)
joined_by d is.Waits = Err becomes.Fragment
joined_by d (is.GaveUp x) = Err (becomes.GivenUp x.fragments)

abbrev pub completed_by : Datagram → Outcome → Completed
completed_by d o = record { whole = joined_by d o.added; waiting = o.waiting }

abbrev pub fragment_completed : (frame : ℕ) → Option Fragment → Datagram → List Gathered → Completed
fragment_completed n None d gs = record { whole = Ok d; waiting = gs }
fragment_completed n (Some f) d gs = completed_by d (added n f d gs)

abbrev pub datagram_completed : (frame : ℕ) → Result Datagram HeaderFault → List Gathered → Completed
datagram_completed n (Err x) gs = record { whole = Err becomes.BadHeader; waiting = gs }
datagram_completed n (Ok d) gs = fragment_completed n d.fragment d gs

abbrev pub completed : (frame : ℕ) → Payload → List Gathered → Completed
completed n p gs = datagram_completed n (datagram_of p) gs

abbrev pub whole_with : Option (List ℕ) → Datagram → Datagram
whole_with None d = d
whole_with (Some xs) d = joined d xs

abbrev pub whole_view : declared_whole.Whole → Datagram
whole_view w = whole_with w.octets (datagram_view w.datagram)

-- ---- what a whole datagram has

-- a further datagram, a segment of XOT, or nothing that is read
pub data Found : Type 0 where
  Nothing : FrameUse → Found
  Further : Inner → Found
  Xot : Seen → Found

abbrev pub found_view : declared_found.Found → Found
found_view (declared_found.TheVariants.Nothing u) = Nothing u
found_view (declared_found.TheVariants.Further i) = Further (inner_view i)
found_view (declared_found.TheVariants.Xot s) = Xot (seen_view s)

abbrev pub further : Result Inner CarrierFault → Found
further (Err x) = Nothing (use_of_carrier x)
further (Ok i) = Further i

-- a segment of XOT, whose connection has the host that is chosen
abbrev pub seen_found : XotChoices → Recorded → Datagram → Segment → Found
seen_found c at d s = if has_host c (ends_of d s) then Xot (seen_in c at d s) else Nothing becomes.OtherHost

abbrev pub segment_found : XotChoices → Recorded → Datagram → Result Segment HeaderFault → Found
segment_found c at d (Err x) = Nothing becomes.BadHeader
segment_found c at d (Ok s) = if is_xot c s then seen_found c at d s else Nothing (becomes.OtherPort (port_sight s))

-- protocol 6 is TCP
abbrev pub found : XotChoices → Recorded → (left : ℕ) → Datagram → Found
found c at left d = if d.protocol == 6 then segment_found c at d (segment_of d.payload) else further (in_datagram left d.protocol d.payload)

abbrev pub found_in : XotChoices → Recorded → (left : ℕ) → Result Datagram FrameUse → Found
found_in c at left (Err u) = Nothing u
found_in c at left (Ok d) = found c at left d

-- ---- the segment of a frame

-- the segment of XOT that a frame gives, the datagrams of which fragments wait after it, and what becomes of the frame
pub record Reached : Type 0 where
  pub waiting : List Gathered
  pub seen : Option Seen
  pub frame : FrameUse

abbrev pub nothing_in : FrameUse → List Gathered → Reached
nothing_in u gs = record { waiting = gs; seen = None; frame = u }

abbrev pub found_reached : (Inner → List Gathered → Reached) → Found → List Gathered → Reached
found_reached on (Nothing u) gs = nothing_in u gs
found_reached on (Further i) gs = on i gs
found_reached on (Xot s) gs = record { waiting = gs; seen = Some s; frame = use_of_segment s.segment }

abbrev pub completed_reached : (Inner → List Gathered → Reached) → XotChoices → Recorded → (left : ℕ) → Completed → Reached
completed_reached on c at left o = found_reached on (found_in c at left o.whole) o.waiting

-- of a datagram, and those in it, each in the one before. There are fewer than the bound
unfoldable pub reached : (bound : ℕ) → XotChoices → Recorded → Inner → List Gathered → Reached
reached zero c at i gs = nothing_in becomes.OtherProtocol gs
reached (suc n) c at i gs = completed_reached (reached n c at) c at i.left (completed at.frame i.payload gs)

-- each one leaves room for fewer carriers than the one before, so this bounds them
abbrev pub inner_reached : XotChoices → Recorded → Inner → List Gathered → Reached
inner_reached c at i gs = reached (suc i.left) c at i gs

-- the datagram of a frame, which is of a chosen interface: that of its link header, where it has one
abbrev pub is_read : XotChoices → LinkKind → Frame → Bool
is_read c k f = is_on_by c.interface (unwrap_or (header_of k f).index f.interface)

abbrev pub carried_datagram : Result Inner CarrierFault → Result Inner FrameUse
carried_datagram r = result_map_both (λ i. i) use_of_carrier r

abbrev pub link_datagram : Option LinkKind → XotChoices → Frame → Result Inner FrameUse
link_datagram None c f = Err becomes.UnknownLink
link_datagram (Some k) c f = if is_read c k f then carried_datagram (in_frame k (record { octets = f.octets; length = f.length })) else Err becomes.OtherInterface

unfoldable pub frame_datagram : XotChoices → Frame → Result Inner FrameUse
frame_datagram c f = link_datagram (option_or (kind_of_link f.link) c.unknown) c f

abbrev pub recorded_in : Frame → Recorded
recorded_in f = record { frame = f.number; time = f.time }

abbrev pub datagram_reached : Result Inner FrameUse → XotChoices → Recorded → List Gathered → Reached
datagram_reached (Err u) c at gs = nothing_in u gs
datagram_reached (Ok i) c at gs = inner_reached c at i gs

abbrev pub frame_reached : XotChoices → Frame → List Gathered → Reached
frame_reached c f gs = datagram_reached (frame_datagram c f) c (recorded_in f) gs

-- ---- the items of frames

abbrev pub recorder_after : Option Seen → Recorder → Recorder
recorder_after None r = r
recorder_after (Some s) r = (read_of s r).after

abbrev pub segment_items : Option Seen → Recorder → List Item
segment_items None r = []
segment_items (Some s) r = (read_of s r).items

abbrev pub after_reached : Reached → XotReader → XotReader
after_reached q x = record { choices = x.choices; waiting = q.waiting; recorder = recorder_after q.seen x.recorder }

abbrev pub reached_items : Reached → XotReader → List Item
reached_items q x = segment_items q.seen x.recorder

abbrev pub after_frame : Frame → XotReader → XotReader
after_frame f x = after_reached (frame_reached x.choices f x.waiting) x

abbrev pub frame_items : Frame → XotReader → List Item
frame_items f x = reached_items (frame_reached x.choices f x.waiting) x

-- what becomes of it
abbrev pub frame_use : Frame → XotReader → FrameUse
frame_use f x = (frame_reached x.choices f x.waiting).frame

abbrev pub finish_items : XotReader → List Item
finish_items x = closed x.recorder.live x.recorder.table

-- the segments of XOT in a capture, in the order of their frames
abbrev pub record_segment : XotChoices → Option Frame → List Gathered → Option Seen
record_segment c None gs = None
record_segment c (Some f) gs = (frame_reached c f gs).seen

abbrev pub record_waiting : XotChoices → Option Frame → List Gathered → List Gathered
record_waiting c None gs = gs
record_waiting c (Some f) gs = (frame_reached c f gs).waiting

abbrev pub segments_from : XotChoices → List Gathered → List Record → List Seen
segments_from c gs [] = []
segments_from c gs (r ∷ rs) = option_to_list (record_segment c r.frame gs) ++ segments_from c (record_waiting c r.frame gs) rs

abbrev pub segments_of : CaptureOptions → List Record → List Seen
segments_of o records = segments_from (choices_of o) [] records

-- what its connections carry
abbrev pub capture_items : CaptureOptions → List Record → List Item
capture_items o records = recording_items (roles_of o) (segments_of o records)
