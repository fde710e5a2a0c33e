-- Each frame is counted once.
use Rattle.std.proofs.Common.{◌≡◌, ◌∙◌, ap, sym, refl, subst, ℕ, ◌+◌, ◌-◌, ◌<◌, ◌^◌, Bool, true, false, List, [], ◌∷◌, length, Option, None, Some, if◌then◌else◌, arith}
use Rattle.std.proofs.lemmas.Bool.Decides.{nat_tests}
use Rattle.std.specs.Prelude.{◌&&◌, min, nat_lt}
use Rattle.capture_files.specs.declared.entry.Dropped.{Dropped}
use Rattle.capture_model.specs.Frames.{Frame}
use Rattle.capture_rows.specs.Choosing.{is_on, is_on_by}
use Rattle.capture_rows.specs.declared.line.Line.{Line}
use Rattle.lapb_link.specs.declared.receiver.Shown.{Shown}
use Rattle.lapb_link.specs.declared.receiver.Shown.TheVariants as shown
use Rattle.xot_circuits.specs.Items.{Item}
use Rattle.xot_circuits.specs.Items as item
use Rattle.xot_circuits.specs.declared.circuit.What.{What}
use Rattle.xot_circuits.specs.declared.circuit.What.TheVariants as what
use Rattle.capture_rows.specs.Givens.{packet_or_gap}
use Rattle.capture_report.specs.CaptureTexts.{line_by}
use Rattle.capture_report.specs.Circuits.{next_number, reader_after}
use Rattle.capture_report.specs.FrameUses.{use_of_given}
use Rattle.capture_report.specs.Laws.{LineFramesLaw, XotFramesLaw}
use Rattle.capture_report.specs.Reasons.{all_frames, all_shown_counted, counts_from, dropped_by, frame_counted, frames_in, given_counted, item_counted, items_counted, line_dropped, no_counts, record_counted, shown_counted, use_counted, what_counted, with_held, with_use, xot_dropped}
use Rattle.capture_report.specs.Records.{Record}
use Rattle.capture_report.specs.Rows.{after_dropped, after_record, frame_given, record_shown}
use Rattle.capture_report.specs.Segments.{XotReader, finish_items, frame_items, frame_use, new_reader}
use Rattle.capture_report.specs.Sights.{Sight, first_sight, record_sight, sight_from}
use Rattle.capture_report.specs.declared.reasons.Counts.{Counts}
use Rattle.capture_report.specs.declared.reasons.FrameCounts.{FrameCounts}
use Rattle.capture_report.specs.declared.reasons.FrameUse.{FrameUse}
use Rattle.capture_report.specs.declared.reasons.FrameUse.TheVariants as becomes

-- one more frame, where there is room for its number
use_more : (u : FrameUse) (c : FrameCounts) → all_frames c + 1 < 2 ^ 64 → all_frames (with_use u c) ≡ all_frames c + 1
use_more becomes.Read c h = grind (arith, h)
use_more becomes.UnknownLink c h = grind (arith, h)
use_more becomes.OtherInterface c h = grind (arith, h)
use_more becomes.OtherProtocol c h = grind (arith, h)
use_more becomes.OtherCarrier c h = grind (arith, h)
use_more becomes.BadHeader c h = grind (arith, h)
use_more becomes.BadCheck c h = grind (arith, h)
use_more becomes.LinkFrame c h = grind (arith, h)
use_more becomes.DeviceWord c h = grind (arith, h)
use_more becomes.Repeated c h = grind (arith, h)
use_more becomes.Held c h = grind (arith, h)
use_more becomes.InGap c h = grind (arith, h)
use_more becomes.Fragment c h = grind (arith, h)
use_more (becomes.GivenUp n) c h = grind (arith, h)
use_more (becomes.OtherPort s) c h = grind (arith, h)
use_more becomes.OtherHost c h = grind (arith, h)
use_more becomes.NoOctets c h = grind (arith, h)

-- a held frame that was accepted counts as before, once
held_same : (u : FrameUse) (c : FrameCounts) → all_frames c < 2 ^ 64 → all_frames (with_held u c) ≡ all_frames c
held_same u c h = at (nat_lt 0 c.held) refl
  where
    less : FrameCounts
    less = record c { held = c.held - 1 }

    at : (b : Bool) → nat_lt 0 c.held ≡ b → all_frames (if b then with_use u less else c) ≡ all_frames c
    at false is = refl
    at true is =
        let fewer : all_frames less + 1 ≡ all_frames c = grind (arith, nat_tests, is) in
        use_more u less (subst (λ n. n < 2 ^ 64) (sym fewer) h) ∙ fewer

shown_same : (x : Shown) (c : Counts) → all_frames c.frames < 2 ^ 64 → all_frames (shown_counted x c).frames ≡ all_frames c.frames
shown_same (shown.Accepted f) c h = held_same (use_of_given (packet_or_gap f.side f.octets f.is_cut)) c.frames h
shown_same (shown.Lost s n to) c h = refl
shown_same (shown.Gap g) c h = refl
shown_same (shown.Refused n) c h = refl

all_shown_same : (xs : List Shown) (c : Counts) → all_frames c.frames < 2 ^ 64 → all_frames (all_shown_counted xs c).frames ≡ all_frames c.frames
all_shown_same [] c h = refl
all_shown_same (x ∷ xs) c h = let one = shown_same x c h in all_shown_same xs (shown_counted x c) (subst (λ n. n < 2 ^ 64) (sym one) h) ∙ one

dropped_same : (b : Bool) (d : Dropped) (c : Counts) → (dropped_by b d c).frames ≡ c.frames
dropped_same b d c = at (nat_lt 0 d.count && b)
  where
    at : (b : Bool) → (if b then record c { dropped = min (c.dropped + d.count) (2 ^ 64 - 1) } else c).frames ≡ c.frames
    at true = refl
    at false = refl

line_dropped_same : (d : Option Dropped) (l : Line) (c : Counts) → (line_dropped d l c).frames ≡ c.frames
line_dropped_same None l c = refl
line_dropped_same (Some d) l c = dropped_same (is_on l.choices d.interface) d c

xot_dropped_same : (d : Option Dropped) (n : Option ℕ) (c : Counts) → (xot_dropped d n c).frames ≡ c.frames
xot_dropped_same None n c = refl
xot_dropped_same (Some d) n c = dropped_same (is_on_by n d.interface) d c

items_same : (is : List Item) (c : Counts) → (items_counted is c).frames ≡ c.frames
items_same [] c = refl
items_same (i ∷ is) c = items_same is (item_counted i c) ∙ one i
  where
    of : (w : What) → (what_counted w c).frames ≡ c.frames
    of what.SetUp = refl
    of (what.OfInterface n) = refl
    of what.Packet = refl
    of (what.OtherChannel n) = refl

    end : (b : Bool) → (if b then record c { not_xot = next_number c.not_xot } else c).frames ≡ c.frames
    end true = refl
    end false = refl

    long : (b : Bool) → (if b then record c { long_packets = next_number c.long_packets } else c).frames ≡ c.frames
    long true = refl
    long false = refl

    gap : (b : Bool) → (if b then c else record c { circuit_gaps = next_number c.circuit_gaps }).frames ≡ c.frames
    gap true = refl
    gap false = refl

    one : (i : Item) → (item_counted i c).frames ≡ c.frames
    one (item.LeftOut s) = of s.what
    one (item.Ended e) = end e.circuit.is_left
    one (item.Packet s) = long (nat_lt 4200 (length s.octets))
    one (item.Gap g) = gap g.is_beginning

-- ---- a line

-- how many frames are there
abbrev own : Option Frame → ℕ
own None = 0
own (Some f) = 1

given_more : (f : Option Frame) (xs : List Shown) (m : Line) (c : Counts) → all_frames c.frames + own f < 2 ^ 64 → all_frames (given_counted f xs (frame_given f m) c).frames ≡ all_frames c.frames + own f
given_more None xs m c h = omega arith
given_more (Some f) xs m c h =
    let same = all_shown_same xs c (omega (arith, h)) in
    use_more _ (all_shown_counted xs c).frames (subst (λ n. n + 1 < 2 ^ 64) (sym same) h) ∙ ap (λ n. n + 1) same

frames_more : (r : Record) (rs : List Record) → length (frames_in (r ∷ rs)) ≡ own r.frame + length (frames_in rs)
frames_more r rs = at r.frame
  where
    at : (f : Option Frame) → length (frames_in (record { dropped = r.dropped; frame = f } ∷ rs)) ≡ own f + length (frames_in rs)
    at None = omega arith
    at (Some f) = omega arith

line_frames : (l : Line) (records : List Record) (s : Sight) → all_frames s.counts.frames + length (frames_in records) < 2 ^ 64
    → all_frames (sight_from l records s).counts.frames ≡ all_frames s.counts.frames + length (frames_in records)
line_frames l [] s h = omega arith
line_frames l (r ∷ rs) s h =
    let n = length (frames_in rs) in
    let k = all_frames s.counts.frames in
    let before : all_frames (line_dropped r.dropped l s.counts).frames ≡ k = ap all_frames (line_dropped_same r.dropped l s.counts) in
    let room : k + (own r.frame + n) < 2 ^ 64 = subst (λ m. k + m < 2 ^ 64) (frames_more r rs) h in
    let one : all_frames (record_sight l r s).counts.frames ≡ k + own r.frame =
    given_more r.frame (record_shown r l) (after_dropped r.dropped l) (line_dropped r.dropped l s.counts) (subst (λ m. m + own r.frame < 2 ^ 64) (sym before) (omega (arith, room))) ∙ ap (λ m. m + own r.frame) before
    in
    line_frames (after_record r l) rs (record_sight l r s) (subst (λ m. m + n < 2 ^ 64) (sym one) (omega (arith, room))) ∙ ap (λ m. m + n) one
    ∙ sum k (own r.frame) n ∙ ap (λ m. k + m) (sym (frames_more r rs))
  where
    sum : (a b c : ℕ) → a + b + c ≡ a + (b + c)
    sum a b c = omega arith

pub line_frames_law : LineFramesLaw
line_frames_law o records h =
    let none : all_frames no_counts.frames + length (frames_in records) ≡ length (frames_in records) = omega arith in
    line_frames (line_by o) records (first_sight o.choices.unknown) (subst (λ n. n < 2 ^ 64) (sym none) h) ∙ none

-- ---- XOT

frame_more : (f : Option Frame) (x : XotReader) (c : Counts) → all_frames c.frames + own f < 2 ^ 64 → all_frames (frame_counted f x c).frames ≡ all_frames c.frames + own f
frame_more None x c h = omega arith
frame_more (Some f) x c h = ap all_frames (items_same (frame_items f x) (use_counted (frame_use f x) c)) ∙ use_more (frame_use f x) c.frames h

xot_frames : (x : XotReader) (records : List Record) (c : Counts) → all_frames c.frames + length (frames_in records) < 2 ^ 64
    → all_frames (counts_from x records c).frames ≡ all_frames c.frames + length (frames_in records)
xot_frames x [] c h = ap all_frames (items_same (finish_items x) _) ∙ omega arith
xot_frames x (r ∷ rs) c h =
    let n = length (frames_in rs) in
    let k = all_frames c.frames in
    let d = xot_dropped r.dropped x.choices.interface c in
    let before : all_frames d.frames ≡ k = ap all_frames (xot_dropped_same r.dropped x.choices.interface c) in
    let room : k + (own r.frame + n) < 2 ^ 64 = subst (λ m. k + m < 2 ^ 64) (frames_more r rs) h in
    let one : all_frames (record_counted r x c).frames ≡ k + own r.frame =
    frame_more r.frame x d (subst (λ m. m + own r.frame < 2 ^ 64) (sym before) (omega (arith, room))) ∙ ap (λ m. m + own r.frame) before
    in
    xot_frames (reader_after r.frame x) rs (record_counted r x c) (subst (λ m. m + n < 2 ^ 64) (sym one) (omega (arith, room))) ∙ ap (λ m. m + n) one
    ∙ sum k (own r.frame) n ∙ ap (λ m. k + m) (sym (frames_more r rs))
  where
    sum : (a b c : ℕ) → a + b + c ≡ a + (b + c)
    sum a b c = omega arith

pub xot_frames_law : XotFramesLaw
xot_frames_law o records h =
    let none : all_frames no_counts.frames + length (frames_in records) ≡ length (frames_in records) = omega arith in
    xot_frames (new_reader o) records no_counts (subst (λ n. n < 2 ^ 64) (sym none) h) ∙ none
