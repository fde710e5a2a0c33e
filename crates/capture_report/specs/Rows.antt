-- The rows of a capture, in their order.
use Rattle.std.specs.Prelude.{ℕ, ◌==◌, ◌&&◌, ◌||◌, nat_lt, Bool, true, false, List, [], ◌∷◌, ◌++◌, Option, Some, None, if◌then◌else◌}
use Rattle.std.specs.List.{flat_map, list_any}
use Rattle.capture_files.specs.declared.entry.Dropped.{Dropped}
use Rattle.capture_model.specs.Frames.{Frame}
use Rattle.lapb_link.specs.declared.frames.Place.{Place}
use Rattle.lapb_link.specs.declared.receiver.Shown.{Shown}
use Rattle.lapb_link.specs.declared.receiver.Shown.TheVariants as shown
use Rattle.capture_rows.specs.Choosing.{is_on}
use Rattle.capture_rows.specs.Givens as given
use Rattle.capture_rows.specs.Givens.{Given, packet_or_gap}
use Rattle.capture_rows.specs.Lines.{FrameRead, frame_read}
use Rattle.capture_rows.specs.declared.line.Line.{Line}
use Rattle.capture_report.specs.Contents.{Gap, Packet, Row, gap_of_all}
use Rattle.capture_report.specs.Plans.{Plan, is_accepted, is_doubtful, plan_of}
use Rattle.capture_report.specs.Records.{Record}
use Rattle.capture_report.specs.declared.reader.Order.{Order}
use Rattle.capture_report.specs.declared.reader.Order.TheVariants.{Noticed, Placed}

abbrev pub gap_if : Bool → Place → List Row
gap_if b p = if b then gap_of_all p ∷ [] else []

-- the row of what a frame gives; one that is held gives none
abbrev pub own_rows : Place → Given → List Row
own_rows p (given.Packet s octets) = record { place = p; circuit = None; content = Packet s octets } ∷ []
own_rows p (given.Gap c r) = record { place = p; circuit = None; content = Gap c } ∷ []
own_rows p (given.Held s octets cut) = []
own_rows p (given.OfLink k) = []
own_rows p (given.LeftOut r) = []

abbrev pub rows_behind : Bool → Place → Given → List Row
rows_behind b p g = gap_if b p ++ own_rows p g

-- as they are noticed: a gap stands before the frame that shows it, and the packet of a held frame where it was accepted
abbrev pub shown_rows : Shown → List Row
shown_rows (shown.Gap g) = gap_of_all g.place ∷ []
shown_rows (shown.Accepted h) = own_rows h.place (packet_or_gap h.side h.octets h.is_cut)
shown_rows (shown.Lost s count to) = []
shown_rows (shown.Refused count) = []

abbrev pub noticed_rows : Place → List Shown → FrameRead → List Row
noticed_rows p xs r = flat_map shown_rows xs ++ rows_behind r.gap_before p r.given

-- at the places of their frames: what a held frame gives in the end
abbrev pub settled : (accepted : Bool) → Given → Given
settled accepted (given.Held s octets cut) = if accepted then packet_or_gap s octets cut else given.Held s octets cut
settled accepted (given.Packet s octets) = given.Packet s octets
settled accepted (given.Gap c r) = given.Gap c r
settled accepted (given.OfLink k) = given.OfLink k
settled accepted (given.LeftOut r) = given.LeftOut r

-- a packet, or one that is left out
abbrev pub has_packet : Given → Bool
has_packet (given.Packet s octets) = true
has_packet (given.Gap c r) = true
has_packet g = false

-- a gap that a frame shows at its own place stands there, even where it gives no packet
abbrev pub is_gap_at : ℕ → Shown → Bool
is_gap_at frame (shown.Gap g) = g.place.frame == frame
is_gap_at frame x = false

abbrev pub is_behind_gap : (doubtful : Bool) → ℕ → List Shown → FrameRead → Given → Bool
is_behind_gap doubtful frame xs r g = r.gap_before || list_any (is_gap_at frame) xs || has_packet g && doubtful

abbrev pub settled_rows : (doubtful : Bool) → Place → List Shown → FrameRead → Given → List Row
settled_rows doubtful p xs r g = rows_behind (is_behind_gap doubtful p.frame xs r g) p g

abbrev pub placed_rows : Plan → Place → List Shown → FrameRead → List Row
placed_rows plan p xs r = settled_rows (is_doubtful plan p.frame) p xs r (settled (is_accepted plan p.frame) r.given)

abbrev pub ordered_rows : Order → Place → List Shown → FrameRead → List Row
ordered_rows Noticed p xs r = noticed_rows p xs r
ordered_rows (Placed plan) p xs r = placed_rows plan p xs r

-- frames that were dropped: a gap, or where their number is not known, what may be missing before the next packet
abbrev pub dropped_rows : Option Dropped → Line → List Row
dropped_rows None l = []
dropped_rows (Some d) l = gap_if (nat_lt 0 d.count && is_on l.choices d.interface) (record { frame = d.number; time = d.time })

abbrev pub after_dropped : Option Dropped → Line → Line
after_dropped None l = l
after_dropped (Some d) l = if d.count == 0 then record l { may_miss = true } else l

abbrev pub place_of : Frame → Place
place_of f = record { frame = f.number; time = f.time }

-- what a frame shows of frames before it, what it gives, and the line after it
abbrev pub frame_shown : Option Frame → Line → List Shown
frame_shown None l = []
frame_shown (Some f) l = (frame_read f l).shown

abbrev pub frame_given : Option Frame → Line → Option FrameRead
frame_given None l = None
frame_given (Some f) l = Some (frame_read f l).read

abbrev pub after_frame : Option Frame → Line → Line
after_frame None l = l
after_frame (Some f) l = (frame_read f l).after

abbrev pub rows_given : Order → Option Frame → List Shown → Option FrameRead → List Row
rows_given order None xs r = []
rows_given order (Some f) xs None = []
rows_given order (Some f) xs (Some r) = ordered_rows order (place_of f) xs r

-- the same of what comes next in a capture, and its rows
abbrev pub record_shown : Record → Line → List Shown
record_shown r l = frame_shown r.frame (after_dropped r.dropped l)

abbrev pub record_given : Record → Line → Option FrameRead
record_given r l = frame_given r.frame (after_dropped r.dropped l)

abbrev pub after_record : Record → Line → Line
after_record r l = after_frame r.frame (after_dropped r.dropped l)

abbrev pub record_rows : Order → Record → Line → List Row
record_rows order r l = dropped_rows r.dropped l ++ rows_given order r.frame (record_shown r l) (record_given r l)

-- the rows of what a capture has, from a line on
abbrev pub rows_from : Order → Line → List Record → List Row
rows_from order l [] = []
rows_from order l (r ∷ rs) = record_rows order r l ++ rows_from order (after_record r l) rs

-- all that its frames show of frames before them
abbrev pub shown_from : Line → List Record → List Shown
shown_from l [] = []
shown_from l (r ∷ rs) = record_shown r l ++ shown_from (after_record r l) rs

-- the rows of a capture that can be read twice
abbrev pub placed : Line → List Record → List Row
placed l rs = rows_from (Placed (plan_of (shown_from l rs))) l rs
