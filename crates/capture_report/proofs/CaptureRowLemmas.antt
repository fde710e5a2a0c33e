-- The rows of a capture are those of its frames.
use Rattle.std.proofs.Common.{sym, subst, ◌==◌, ◌&&◌, Bool, true, false, List, [], ◌∷◌, Option, None, Some}
use Rattle.std.specs.Prelude.{IfSome, nat_lt, if◌then◌else◌}
use Rattle.std.specs.List.{AllByRecursion, flat_map}
use Rattle.capture_files.specs.declared.entry.Dropped.{Dropped}
use Rattle.capture_model.specs.Frames.{Frame}
use Rattle.lapb_link.specs.declared.frames.Place.{Place}
use Rattle.lapb_link.specs.declared.receiver.Shown.{Shown}
use Rattle.lapb_link.specs.declared.receiver.Shown.TheVariants as shown
use Rattle.capture_rows.specs.Choosing.{is_on}
use Rattle.capture_rows.specs.Givens as given
use Rattle.capture_rows.specs.Givens.{Given, packet_or_gap}
use Rattle.capture_rows.specs.Lines.{FrameRead, frame_read}
use Rattle.capture_rows.specs.declared.line.Line.{Line}
use Rattle.capture_report.specs.Laws.{IsFrame, IsRecord, RowsLaw}
use Rattle.capture_report.specs.Plans.{is_accepted, is_doubtful}
use Rattle.capture_report.specs.Records.{Record}
use Rattle.capture_report.specs.Rows.{after_dropped, after_frame, after_record, dropped_rows, frame_given, frame_shown, gap_if, is_behind_gap, ordered_rows, own_rows, place_of, record_rows, rows_behind, rows_from, rows_given, settled, shown_rows}
use Rattle.capture_report.specs.TraceRows.{AreRows, IsPlace, IsRow}
use Rattle.capture_report.specs.declared.reader.Order.{Order}
use Rattle.capture_report.specs.declared.reader.Order.TheVariants.{Noticed, Placed}
use Rattle.capture_report.proofs.FrameLemmas.{IsGiven, frame_is, packet_given}
use Rattle.capture_report.proofs.HeldLemmas.{AreShown, IsShown, both}
use Rattle.capture_report.proofs.LinkLemmas.{HoldsFrames}

own_are_rows : (p : Place) (g : Given) → IsPlace p → IsGiven g → AreRows (own_rows p g)
own_are_rows p (given.Packet s octets) place h = (record { place = place; circuit = tt; content = h }, tt)
own_are_rows p (given.Gap c r) place h = (record { place = place; circuit = tt; content = h }, tt)
own_are_rows p (given.Held s octets cut) place h = tt
own_are_rows p (given.OfLink k) place h = tt
own_are_rows p (given.LeftOut r) place h = tt

gap_is_row : (b : Bool) (p : Place) → IsPlace p → AreRows (gap_if b p)
gap_is_row true p place = (record { place = place; circuit = tt; content = tt }, tt)
gap_is_row false p place = tt

behind_are_rows : (b : Bool) (p : Place) (g : Given) → IsPlace p → IsGiven g → AreRows (rows_behind b p g)
behind_are_rows b p g place h = both IsRow (gap_if b p) (own_rows p g) (gap_is_row b p place) (own_are_rows p g place h)

shown_are_rows : (x : Shown) → IsShown x → AreRows (shown_rows x)
shown_are_rows (shown.Gap g) h = (record { place = h; circuit = tt; content = tt }, tt)
shown_are_rows (shown.Accepted f) h = own_are_rows f.place (packet_or_gap f.side f.octets f.is_cut) h.place (packet_given f.side f.octets f.is_cut h.octets)
shown_are_rows (shown.Lost s count to) h = tt
shown_are_rows (shown.Refused count) h = tt

all_are_rows : (xs : List Shown) → AreShown xs → AreRows (flat_map shown_rows xs)
all_are_rows [] h = tt
all_are_rows (x ∷ xs) h = both IsRow (shown_rows x) (flat_map shown_rows xs) (shown_are_rows x h.0) (all_are_rows xs h.1)

settled_is : (accepted : Bool) (g : Given) → IsGiven g → IsGiven (settled accepted g)
settled_is true (given.Held s octets cut) h = packet_given s octets cut h
settled_is false (given.Held s octets cut) h = h
settled_is accepted (given.Packet s octets) h = h
settled_is accepted (given.Gap c r) h = h
settled_is accepted (given.OfLink k) h = h
settled_is accepted (given.LeftOut r) h = h

ordered_are_rows : (order : Order) (p : Place) (xs : List Shown) (r : FrameRead) → IsPlace p → AreShown xs → IsGiven r.given → AreRows (ordered_rows order p xs r)
ordered_are_rows Noticed p xs r place h k = both IsRow (flat_map shown_rows xs) (rows_behind r.gap_before p r.given) (all_are_rows xs h) (behind_are_rows r.gap_before p r.given place k)
ordered_are_rows (Placed plan) p xs r place h k =
    let g = settled (is_accepted plan p.frame) r.given in
    behind_are_rows (is_behind_gap (is_doubtful plan p.frame) p.frame xs r g) p g place (settled_is (is_accepted plan p.frame) r.given k)

dropped_are_rows : (d : Option Dropped) (l : Line) → IfSome d (λ d. IsPlace (record { frame = d.number; time = d.time })) → AreRows (dropped_rows d l)
dropped_are_rows None l h = tt
dropped_are_rows (Some d) l h = gap_is_row (nat_lt 0 d.count && is_on l.choices d.interface) (record { frame = d.number; time = d.time }) h

dropped_holds : (d : Option Dropped) (l : Line) → HoldsFrames l.link → HoldsFrames (after_dropped d l).link
dropped_holds None l h = h
dropped_holds (Some d) l h = at (d.count == 0)
  where
    at : (b : Bool) → HoldsFrames (if b then (let m : Line = record l { may_miss = true } in m) else l).link
    at true = h
    at false = h

frame_rows : (order : Order) (f : Option Frame) (l : Line) → IfSome f IsFrame → HoldsFrames l.link → AreRows (rows_given order f (frame_shown f l) (frame_given f l)) × HoldsFrames (after_frame f l).link
frame_rows order None l h k = (tt, k)
frame_rows order (Some f) l h k =
    let r = frame_is f l h.place h.octets k in
    (ordered_are_rows order (place_of f) (frame_read f l).shown (frame_read f l).read h.place r.shown r.given, r.after)

are_rows : (order : Order) (l : Line) (records : List Record) → HoldsFrames l.link → AllByRecursion IsRecord records → AreRows (rows_from order l records)
are_rows order l [] h k = tt
are_rows order l (r ∷ rs) h k =
    let m = after_dropped r.dropped l in
    let f = frame_rows order r.frame m k.0.1 (dropped_holds r.dropped l h) in
    both IsRow (record_rows order r l) (rows_from order (after_record r l) rs)
    (both IsRow (dropped_rows r.dropped l) (rows_given order r.frame (frame_shown r.frame m) (frame_given r.frame m)) (dropped_are_rows r.dropped l k.0.0) f.0)
    (are_rows order (after_record r l) rs f.1 k.1)

pub rows_law : RowsLaw
rows_law order l records fresh h = are_rows order l records (subst HoldsFrames (sym fresh.new) (tt, tt)) h
