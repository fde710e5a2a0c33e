-- How many frames of a capture are read, and how many are left out for each reason.
use Rattle.std.specs.Prelude.{ℕ, ◌+◌, ◌-◌, ◌^◌, ◌&&◌, nat_lt, min, Bool, List, [], ◌∷◌, length, Option, None, Some, is_none, filter, if◌then◌else◌}
use Rattle.std.specs.List.{filter_map}
use Rattle.capture_files.specs.declared.entry.Dropped.{Dropped}
use Rattle.capture_model.specs.Frames.{Frame}
use Rattle.capture_rows.specs.Choosing.{is_on, is_on_by}
use Rattle.capture_rows.specs.Givens.{packet_or_gap}
use Rattle.capture_rows.specs.Lines.{FrameRead}
use Rattle.capture_rows.specs.declared.line.Line.{Line}
use Rattle.ip_segments.specs.Gathering.{given_up}
use Rattle.ip_segments.specs.declared.gathered.Gathered.{Gathered}
use Rattle.lapb_link.specs.declared.receiver.Shown.{Shown}
use Rattle.lapb_link.specs.declared.receiver.Shown.TheVariants as shown
use Rattle.line_model.specs.declared.interface.Interface.{Interface}
use Rattle.xot_circuits.specs.Items.{Item}
use Rattle.xot_circuits.specs.Items as item
use Rattle.xot_circuits.specs.declared.circuit.What.{What}
use Rattle.xot_circuits.specs.declared.circuit.What.TheVariants as what
use Rattle.capture_report.specs.Circuits.{channel_in, next_number, reader_after}
use Rattle.capture_report.specs.FrameUses.{use_of_given}
use Rattle.capture_report.specs.Records.{Record}
use Rattle.capture_report.specs.Segments.{XotReader, finish_items, frame_items, frame_use, new_reader}
use Rattle.capture_report.specs.declared.circuits.SeenCircuit.{SeenCircuit}
use Rattle.capture_report.specs.declared.options.CaptureOptions.{CaptureOptions}
use Rattle.capture_report.specs.declared.reasons.Counts.{Counts}
use Rattle.capture_report.specs.declared.reasons.FrameCounts.{FrameCounts}
use Rattle.capture_report.specs.declared.reasons.FrameUse.{FrameUse}
use Rattle.capture_report.specs.declared.reasons.FrameUse.TheVariants as becomes

-- ---- counts; none is above 2 ^ 64 - 1

abbrev pub sum_up_to : ℕ → ℕ → ℕ
sum_up_to n m = min (n + m) (2 ^ 64 - 1)

abbrev pub no_frames : FrameCounts
no_frames = record {
  read = 0;
  unknown_link = 0;
  other_interface = 0;
  other_protocol = 0;
  other_carrier = 0;
  bad_header = 0;
  bad_check = 0;
  link_frame = 0;
  device_word = 0;
  repeated = 0;
  held = 0;
  in_gap = 0;
  fragments = 0;
  other_port = 0;
  other_host = 0;
  no_octets = 0;
}

abbrev pub no_counts : Counts
no_counts = record { frames = no_frames; dropped = 0; lost_frames = 0; lost_fragments = 0; set_ups = 0; of_interface = 0; long_packets = 0; not_xot = 0; without_channel = 0; circuit_gaps = 0 }

-- with one more frame
abbrev pub with_use : FrameUse → FrameCounts → FrameCounts
with_use becomes.Read c = record c { read = next_number c.read }
with_use becomes.UnknownLink c = record c { unknown_link = next_number c.unknown_link }
with_use becomes.OtherInterface c = record c { other_interface = next_number c.other_interface }
with_use becomes.OtherProtocol c = record c { other_protocol = next_number c.other_protocol }
with_use becomes.OtherCarrier c = record c { other_carrier = next_number c.other_carrier }
with_use becomes.BadHeader c = record c { bad_header = next_number c.bad_header }
with_use becomes.BadCheck c = record c { bad_check = next_number c.bad_check }
with_use becomes.LinkFrame c = record c { link_frame = next_number c.link_frame }
with_use becomes.DeviceWord c = record c { device_word = next_number c.device_word }
with_use becomes.Repeated c = record c { repeated = next_number c.repeated }
with_use becomes.Held c = record c { held = next_number c.held }
with_use becomes.InGap c = record c { in_gap = next_number c.in_gap }
with_use becomes.Fragment c = record c { fragments = next_number c.fragments }
with_use (becomes.GivenUp n) c = record c { fragments = next_number c.fragments }
with_use (becomes.OtherPort s) c = record c { other_port = next_number c.other_port }
with_use becomes.OtherHost c = record c { other_host = next_number c.other_host }
with_use becomes.NoOctets c = record c { no_octets = next_number c.no_octets }

-- fragments that are given up
abbrev pub lost_by : FrameUse → ℕ → ℕ
lost_by (becomes.GivenUp n) m = sum_up_to m n
lost_by u m = m

abbrev pub use_counted : FrameUse → Counts → Counts
use_counted u c = record c { frames = with_use u c.frames; lost_fragments = lost_by u c.lost_fragments }

-- a held frame was accepted: it is no frame out of sequence any more
abbrev pub with_held : FrameUse → FrameCounts → FrameCounts
with_held u c = if nat_lt 0 c.held then with_use u (record c { held = c.held - 1 }) else c

-- ---- of a line

-- what a frame shows of frames before it
abbrev pub shown_counted : Shown → Counts → Counts
shown_counted (shown.Accepted h) c = record c { frames = with_held (use_of_given (packet_or_gap h.side h.octets h.is_cut)) c.frames }
shown_counted (shown.Lost s n to) c = record c { lost_frames = sum_up_to c.lost_frames n }
shown_counted (shown.Gap g) c = c
shown_counted (shown.Refused n) c = c

abbrev pub all_shown_counted : List Shown → Counts → Counts
all_shown_counted [] c = c
all_shown_counted (x ∷ xs) c = all_shown_counted xs (shown_counted x c)

abbrev pub given_counted : Option Frame → List Shown → Option FrameRead → Counts → Counts
given_counted None xs r c = c
given_counted (Some f) xs None c = c
given_counted (Some f) xs (Some r) c = use_counted (use_of_given r.given) (all_shown_counted xs c)

-- frames that were dropped, of an interface that is read
abbrev pub dropped_by : (is_read : Bool) → Dropped → Counts → Counts
dropped_by b d c = if nat_lt 0 d.count && b then record c { dropped = sum_up_to c.dropped d.count } else c

abbrev pub line_dropped : Option Dropped → Line → Counts → Counts
line_dropped None l c = c
line_dropped (Some d) l c = dropped_by (is_on l.choices d.interface) d c

-- ---- of XOT

abbrev pub what_counted : What → Counts → Counts
what_counted what.SetUp c = record c { set_ups = next_number c.set_ups }
what_counted (what.OfInterface n) c = record c { of_interface = next_number c.of_interface }
what_counted what.Packet c = c
what_counted (what.OtherChannel n) c = c

-- packets that are left out, packets for which no row has room, connections that do not carry XOT, and gaps but those at the beginning of a recording
abbrev pub item_counted : Item → Counts → Counts
item_counted (item.LeftOut s) c = what_counted s.what c
item_counted (item.Ended e) c = if e.circuit.is_left then record c { not_xot = next_number c.not_xot } else c
item_counted (item.Packet s) c = if nat_lt 4200 (length s.octets) then record c { long_packets = next_number c.long_packets } else c
item_counted (item.Gap g) c = if g.is_beginning then c else record c { circuit_gaps = next_number c.circuit_gaps }

abbrev pub items_counted : List Item → Counts → Counts
items_counted [] c = c
items_counted (i ∷ is) c = items_counted is (item_counted i c)

abbrev pub xot_dropped : Option Dropped → (interface : Option ℕ) → Counts → Counts
xot_dropped None n c = c
xot_dropped (Some d) n c = dropped_by (is_on_by n d.interface) d c

-- the fragments of datagrams that wait
abbrev pub waiting_from : List Gathered → ℕ → ℕ
waiting_from [] n = n
waiting_from (g ∷ gs) n = waiting_from gs (sum_up_to n (given_up g).fragments)

-- circuits for which no logical channel was left
abbrev pub without_channel : (channel : ℕ → Option ℕ) → List SeenCircuit → ℕ
without_channel channel cs = length (filter (λ c. is_none (channel c.connection)) cs)

-- what comes next in a capture: its frame, and what this completes
abbrev pub frame_counted : Option Frame → XotReader → Counts → Counts
frame_counted None x c = c
frame_counted (Some f) x c = items_counted (frame_items f x) (use_counted (frame_use f x) c)

abbrev pub record_counted : Record → XotReader → Counts → Counts
record_counted r x c = frame_counted r.frame x (xot_dropped r.dropped x.choices.interface c)

-- what is left at its end
abbrev pub last_counted : XotReader → Counts → Counts
last_counted x c = items_counted (finish_items x) (record c { lost_fragments = sum_up_to c.lost_fragments (waiting_from x.waiting 0) })

abbrev pub counts_from : XotReader → List Record → Counts → Counts
counts_from x [] c = last_counted x c
counts_from x (r ∷ rs) c = counts_from (reader_after r.frame x) rs (record_counted r x c)

abbrev pub xot_counts : CaptureOptions → List Record → Counts
xot_counts o records = counts_from (new_reader o) records no_counts

-- with the circuits that have no logical channel under an interface
abbrev pub with_channels : Counts → List SeenCircuit → Interface → Counts
with_channels c cs i = record c { without_channel = without_channel (channel_in i cs) cs }

-- ---- all frames

abbrev pub frames_in : List Record → List Frame
frames_in records = filter_map (λ r. r.frame) records

-- those that were read, and those that were left out for each reason
abbrev pub all_frames : FrameCounts → ℕ
all_frames c = c.read + (c.unknown_link + (c.other_interface + (c.other_protocol + (c.other_carrier + (c.bad_header + (c.bad_check + (c.link_frame + (c.device_word
    + (c.repeated + (c.held + (c.in_gap + (c.fragments + (c.other_port + (c.other_host + c.no_octets))))))))))))))
