-- The items of a capture's steps are those of a recording of its segments; where no frame has a datagram there are none.
use Rattle.std.proofs.Common.{◌≡◌, ◌∙◌, ap, refl, List, [], ◌∷◌, ◌++◌, Option, None, Some, map}
use Rattle.std.specs.Prelude.{◌&&◌, ◌||◌, nat_lt, Bool, true, false, IfSome, Result, Ok, Err, is_ok, if◌then◌else◌}
use Rattle.std.specs.List.{AllByRecursion, filter_map}
use Rattle.std.specs.Option.{option_or, option_to_list}
use Rattle.capture_files.specs.declared.entry.Dropped.{Dropped}
use Rattle.capture_model.specs.Frames.{Frame}
use Rattle.capture_model.specs.Kinds.{kind_of_link}
use Rattle.capture_model.specs.declared.kind.LinkKind.{LinkKind}
use Rattle.capture_rows.specs.Choosing.{is_on_by}
use Rattle.capture_rows.specs.Lines.{FrameRead}
use Rattle.capture_rows.specs.declared.line.Line.{Line}
use Rattle.ip_segments.specs.Carriers.{Inner, in_frame}
use Rattle.ip_segments.specs.declared.carriers.CarrierFault.{CarrierFault}
use Rattle.ip_segments.specs.declared.gathered.Gathered.{Gathered}
use Rattle.lapb_link.specs.declared.receiver.Shown.{Shown}
use Rattle.xot_circuits.specs.Items.{Item}
use Rattle.xot_circuits.specs.Recordings.{Seen, items_from, new_recorder, read_of}
use Rattle.capture_report.specs.CaptureTexts.{line_by}
use Rattle.capture_report.specs.Circuits.{All, Counted, Of, Step, circuit_at, dropped_steps, frame_steps, gap_counted, none_counted, reader_after, rule_of, steps_counted, steps_from, steps_of}
use Rattle.capture_report.specs.FrameUses.{use_of_carrier}
use Rattle.capture_report.specs.Laws.{ItemsLaw, NoCircuitLaw, items_in}
use Rattle.capture_report.specs.Records.{Record}
use Rattle.capture_report.specs.Rows.{after_record, record_given, record_shown}
use Rattle.capture_report.specs.Segments.{Reached, XotReader, carried_datagram, choices_of, datagram_reached, finish_items, frame_datagram, frame_reached, is_read, link_datagram, new_reader, record_segment, record_waiting, recorded_in, recorder_after, roles_of, segment_items, segments_from}
use Rattle.capture_report.specs.Sights.{Sight, dropped_sight, first_sight, given_sight, has_datagram, record_sight, sight_from}
use Rattle.capture_report.specs.declared.circuit_row.CircuitRule.{CircuitRule}
use Rattle.capture_report.specs.declared.reasons.FrameUse.{FrameUse}
use Rattle.capture_report.specs.declared.reasons.FrameUse.TheVariants as becomes
use Rattle.capture_report.specs.declared.xot_frames.XotChoices.{XotChoices}

items_of : (is : List Item) (ss : List Step) → items_in (map (λ i. Of i) is ++ ss) ≡ is ++ items_in ss
items_of [] ss = refl
items_of (i ∷ is) ss = ap (λ xs. i ∷ xs) (items_of is ss)

last_items : (is : List Item) → items_in (map (λ i. Of i) is) ≡ is
last_items [] = refl
last_items (i ∷ is) = ap (λ xs. i ∷ xs) (last_items is)

-- gaps have no items
no_items : (d : Option Dropped) (x : XotReader) (ss : List Step) → items_in (dropped_steps d x ++ ss) ≡ items_in ss
no_items None x ss = refl
no_items (Some d) x ss = at (nat_lt 0 d.count && is_on_by x.choices.interface d.interface)
  where
    at : (b : Bool) → items_in ((if b then All (record { frame = d.number; time = d.time }) ∷ [] else []) ++ ss) ≡ items_in ss
    at true = refl
    at false = refl

abbrev AreItems : List Record → XotReader → Type 0
AreItems rs x = items_in (steps_from x rs) ≡ items_from (segments_from x.choices x.waiting rs) x.recorder

-- the items of a segment, and those of the rest
abbrev reader_with : XotReader → List Gathered → Option Seen → XotReader
reader_with x gs seen = record { choices = x.choices; waiting = gs; recorder = recorder_after seen x.recorder }

segment_same : (x : XotReader) (rs : List Record) → ((y : XotReader) → AreItems rs y) → (seen : Option Seen) (gs : List Gathered)
    → items_in (map (λ i. Of i) (segment_items seen x.recorder) ++ steps_from (reader_with x gs seen) rs) ≡ items_from (option_to_list seen ++ segments_from x.choices gs rs) x.recorder
segment_same x rs later None gs = later (reader_with x gs None)
segment_same x rs later (Some s) gs =
    let is = (read_of s x.recorder).items in
    items_of is (steps_from (reader_with x gs (Some s)) rs) ∙ ap (λ more. is ++ more) (later (reader_with x gs (Some s)))

frame_same : (x : XotReader) (rs : List Record) → ((y : XotReader) → AreItems rs y) → (f : Option Frame)
    → items_in (frame_steps f x ++ steps_from (reader_after f x) rs) ≡ items_from (option_to_list (record_segment x.choices f x.waiting) ++ segments_from x.choices (record_waiting x.choices f x.waiting) rs) x.recorder
frame_same x rs later None = later x
frame_same x rs later (Some f) = let q = frame_reached x.choices f x.waiting in segment_same x rs later q.seen q.waiting

are_items : (x : XotReader) (rs : List Record) → AreItems rs x
are_items x [] = last_items (finish_items x)
are_items x (r ∷ rs) = no_items r.dropped x (frame_steps r.frame x ++ steps_from (reader_after r.frame x) rs) ∙ frame_same x rs (λ y. are_items y rs) r.frame

pub items_law : ItemsLaw
items_law o records = are_items (new_reader o) records

-- ---- frames without a datagram

abbrev NoneHas : (unknown : Option LinkKind) → List Record → Type 0
NoneHas unknown rs = AllByRecursion (λ r. IfSome r.frame (λ f. has_datagram (option_or (kind_of_link f.link) unknown) f ≡ false)) rs

both_false : (a b : Bool) → (a || b) ≡ false → (a ≡ false) × (b ≡ false)
both_false true b h = cc h
both_false false b h = (refl, h)

none_has : (l : Line) (rs : List Record) (s : Sight) → (sight_from l rs s).internet ≡ false → (s.internet ≡ false) × NoneHas s.unknown rs
none_has l [] s h = (h, tt)
none_has l (r ∷ rs) s h = at r.frame (record_shown r l) (record_given r l) (none_has (after_record r l) rs (record_sight l r s) h)
  where
    seen : Sight
    seen = dropped_sight r.dropped l s

    at : (f : Option Frame) (xs : List Shown) (q : Option FrameRead) → ((given_sight f xs q seen).internet ≡ false) × NoneHas (given_sight f xs q seen).unknown rs
        → (s.internet ≡ false) × (IfSome f (λ f. has_datagram (option_or (kind_of_link f.link) s.unknown) f ≡ false) × NoneHas s.unknown rs)
    at None xs q later = (later.0, (tt, later.1))
    at (Some f) xs q later = let parts = both_false (has_datagram (option_or (kind_of_link f.link) s.unknown) f) s.internet later.0 in (parts.1, (parts.0, later.1))

abbrev HasNone : Result Inner FrameUse → Type 0
HasNone r = (u : FrameUse) × (r ≡ Err u)

no_datagram : (c : XotChoices) (f : Frame) → has_datagram (option_or (kind_of_link f.link) c.unknown) f ≡ false → HasNone (frame_datagram c f)
unfolding frame_datagram
no_datagram c f = at (kind_of_link f.link)
  where
    in_link : (b : Bool) (r : Result Inner CarrierFault) → is_ok r ≡ false → HasNone (if b then carried_datagram r else Err becomes.OtherInterface)
    in_link true (Ok i) h = cc h
    in_link true (Err x) h = (use_of_carrier x, refl)
    in_link false r h = (becomes.OtherInterface, refl)

    of : (k : Option LinkKind) → has_datagram k f ≡ false → HasNone (link_datagram k c f)
    of None h = (becomes.UnknownLink, refl)
    of (Some k) h = in_link (is_read c k f) (in_frame k (record { octets = f.octets; length = f.length })) h

    at : (own : Option LinkKind) → has_datagram (option_or own c.unknown) f ≡ false → HasNone (link_datagram (option_or own c.unknown) c f)
    at None h = of c.unknown h
    at (Some k) h = of (Some k) h

no_segments : (c : XotChoices) (rs : List Record) → NoneHas c.unknown rs → segments_from c [] rs ≡ []
no_segments c [] h = refl
no_segments c (r ∷ rs) h = at r.frame h.0 (no_segments c rs h.1)
  where
    at : (f : Option Frame) → IfSome f (λ f. has_datagram (option_or (kind_of_link f.link) c.unknown) f ≡ false) → segments_from c [] rs ≡ []
        → option_to_list (record_segment c f []) ++ segments_from c (record_waiting c f []) rs ≡ []
    at None none later = later
    at (Some f) none later =
        ap (λ d. let q : Reached = datagram_reached d c (recorded_in f) [] in option_to_list q.seen ++ segments_from c q.waiting rs) (no_datagram c f none).1 ∙ later

gaps_counted : (rule : CircuitRule) (ss : List Step) (c : Counted) → items_in ss ≡ [] → c.order ≡ [] → (steps_counted rule ss c).order ≡ []
gaps_counted rule [] c h none = none
gaps_counted rule (All p ∷ ss) c h none = gaps_counted rule ss (gap_counted c) h none
gaps_counted rule (Of i ∷ ss) c h none = cc h

pub no_circuit_law : NoCircuitLaw
no_circuit_law o records h =
    let none = no_segments (choices_of o) records (none_has (line_by o) records (first_sight o.choices.unknown) h).1 in
    let items : items_in (steps_of o records) ≡ [] = items_law o records ∙ ap (λ ss. items_from ss (new_recorder (roles_of o))) none in
    ap (λ ns. filter_map (λ n. circuit_at n (steps_counted (rule_of o) (steps_of o records) none_counted)) ns) (gaps_counted (rule_of o) (steps_of o records) none_counted items refl)
