-- A piece with one more row, and at its end.
use Rattle.std.proofs.Common.{◌≡◌, ℕ, zero, suc, ◌+◌, ◌-◌, ◌/◌, ◌<◌, ◌≤◌, ◌^◌, min, Bool, true, false, ◌&&◌, List, [], ◌∷◌, ◌++◌, length, map, sum, take, drop, get_or, Option, Some, None, refl, sym, ap, ◌∙◌, subst, arith, append_assoc}
use Rattle.std.specs.Prelude.{option_map, option_to_list, slice_get}
use Rattle.std.specs.List.{AllByRecursion}
use Rattle.std.specs.Option.{option_copied}
use Rattle.std.specs.Slice.{IsItemAt}
use Rattle.std.proofs.lemmas.Option.{slice_get_past}
use denote.Bor.{Bor}
use Rattle.std.proofs.Math.Seq.{take-append_seam}
use Rattle.std.proofs.lemmas.List.{map-append, append-nil, length-append, take_more, take_all, take-append-drop}
use Rattle.std.proofs.lemmas.List.Elements.{filter_map-append, All-take}
use Rattle.std.proofs.lemmas.List.Sums.{sum_by-append}
use Rattle.line_model.specs.declared.interface.Interface.{Interface}
use Rattle.line_model.specs.declared.event.What.{What}
use Rattle.line_model.specs.declared.event.What.TheVariants.{Found, Data}
use Rattle.line_model.specs.declared.event.Event.{Event}
use Rattle.line_model.specs.declared.finding.Finding.{Finding}
use Rattle.line_model.specs.declared.state.Side.{Side}
use Rattle.line_model.specs.basics.Records.{Item, Piece}
use Rattle.line_model.specs.basics.Bounds.{IsPiece, IsItem, all_octets}
use Rattle.line_model.specs.channels.Channels.{is_open}
use Rattle.line_model.specs.channels.Gaps.{GapChannel, fresh_at}
use Rattle.line_model.specs.observer.MachineEvents.{RowEvent, stamp}
use Rattle.line_model.specs.pieces.Pieces.{events_of_steps}
use Rattle.line_model.specs.observer.Observer.{x25, end_of_epoch, epoch_end, epoch_end_if, event_of, row_step}
use Rattle.line_model.specs.observer.Calls.{all_lengths, segments_of}
use Rattle.line_model.specs.observer.Report.{findings_of}
use Rattle.line_model.specs.pieces.Plans.{row_of_end, piece_events}
use Rattle.line_model.specs.declared.piece.PieceEnd.{PieceEnd}
use Rattle.line_model.specs.declared.event.What.TheVariants.{End}
use Rattle.line_model.proofs.EventWeights.{octets_weight, segments_weight, fewer_segments, findings_weight, packets_weight}
use Rattle.line_model.proofs.ValueBounds.{value_bounds}
use Rattle.line_model.proofs.Findings.{end_confirms}
use Rattle.line_model.proofs.GapMachines.{row_events_are}
use Rattle.line_model.proofs.GapWeights.{piece_few, row_few}
use Rattle.line_model.proofs.RowWeights.{stamp_weight, total-ones}
use Rattle.call_accounts.specs.Counted.{IsCountable}
use Rattle.call_accounts.specs.SoFar.{IsOf}
use Rattle.channel_run.specs.Run.{data_events, row_events, end_events}
use Rattle.channel_run.specs.Tally.{IsWithin}
use Rattle.channel_run.specs.Live.{channel_after, channel_so_far, so_far, with_item}
use Rattle.call_accounts.proofs.CountedLemmas.{sum-more}
use Rattle.call_accounts.proofs.PlaceLemmas.{countable_before}

-- the events of a row, and of those after it
rows_first : (i : Interface) (e k : ℕ) (g : GapChannel) (x : Item) (items : List Item) (end : Option Item)
    → map event_of (events_of_steps (x25 i) e k g (x ∷ items) end) ≡ row_events i e k g x ++ map event_of (events_of_steps (x25 i) e k (row_step i k g x).after items end)
rows_first i e k g x items end =
    let more : List (RowEvent Item What) = events_of_steps (x25 i) e k (row_step i k g x).after items end in
    ap (λ vs. map event_of (vs ++ more)) (row_events_are i e k g x) ∙ map-append event_of (stamp e (Some k) x (row_step i k g x).reported) more

-- the events of rows, and of a row after them
rows_more : (i : Interface) (e k : ℕ) (g : GapChannel) (items : List Item) (item : Item)
    → map event_of (events_of_steps (x25 i) e k g (items ++ item ∷ []) None) ≡ map event_of (events_of_steps (x25 i) e k g items None) ++ row_events i e k (channel_after i k g items) item
rows_more i e k g [] item = rows_first i e k g item [] None ∙ append-nil (row_events i e k g item)
rows_more i e k g (x ∷ items) item =
    let h : GapChannel = (row_step i k g x).after in
    let events_at_row : List Event = row_events i e k g x in
    rows_first i e k g x (items ++ item ∷ []) None
    ∙ ap (λ l. events_at_row ++ l) (rows_more i e k h items item)
    ∙ sym (append_assoc events_at_row (map event_of (events_of_steps (x25 i) e k h items None)) (row_events i e k (channel_after i k h items) item))
    ∙ ap (λ l. l ++ row_events i e k (channel_after i k h items) item) (sym (rows_first i e k g x items None))

rows_end : (i : Interface) (e k : ℕ) (g : GapChannel) (items : List Item) (end : Option PieceEnd)
    → map event_of (events_of_steps (x25 i) e k g items (option_map row_of_end end)) ≡ map event_of (events_of_steps (x25 i) e k g items None) ++ end_events e k end (channel_after i k g items)
rows_end i e k g [] None = refl
rows_end i e k g [] (Some n) = refl
rows_end i e k g (x ∷ items) end =
    let h : GapChannel = (row_step i k g x).after in
    let events_at_row : List Event = row_events i e k g x in
    rows_first i e k g x items (option_map row_of_end end)
    ∙ ap (λ l. events_at_row ++ l) (rows_end i e k h items end)
    ∙ sym (append_assoc events_at_row (map event_of (events_of_steps (x25 i) e k h items None)) (end_events e k end (channel_after i k h items)))
    ∙ ap (λ l. l ++ end_events e k end (channel_after i k h items)) (sym (rows_first i e k g x items None))

pub piece_more : (p : Piece) (item : Item) → piece_events (so_far (with_item p item)) ≡ piece_events (so_far p) ++ row_events p.interface p.epoch p.channel (channel_so_far p) item
piece_more p item = rows_more p.interface p.epoch p.channel (fresh_at p.interface p.start p.epoch p.channel) p.items item

pub piece_ended : (p : Piece) (end : Option PieceEnd) → piece_events (record p { end = end }) ≡ piece_events (so_far p) ++ end_events p.epoch p.channel end (channel_so_far p)
piece_ended p end = rows_end p.interface p.epoch p.channel (fresh_at p.interface p.start p.epoch p.channel) p.items end

pub channel_more : (i : Interface) (k : ℕ) (g : GapChannel) (items : List Item) (item : Item) → channel_after i k g (items ++ item ∷ []) ≡ (row_step i k (channel_after i k g items) item).after
channel_more i k g [] item = refl
channel_more i k g (x ∷ items) item = channel_more i k (row_step i k g x).after items item

-- ---- events of one channel in one epoch

stamp_of : (e k : ℕ) (r : Item) (ws : List What) → AllByRecursion (IsOf e k) (map event_of (stamp e (Some k) r ws))
stamp_of e k r [] = tt
stamp_of e k r (w ∷ ws) = ((refl, refl), stamp_of e k r ws)

pub row_of_channel : (i : Interface) (e k : ℕ) (g : GapChannel) (r : Item) → AllByRecursion (IsOf e k) (row_events i e k g r)
row_of_channel i e k g r = stamp_of e k r (row_step i k g r).reported

-- ---- at most one finding

first_alone : (fs : List Finding) → length fs ≤ 1 → option_to_list (slice_get fs 0) ≡ fs
first_alone [] h = refl
first_alone (f ∷ []) h = refl
first_alone (f ∷ g ∷ fs) h = absurd (omega arith)

pub one_finding : (i : Interface) (e k : ℕ) (g : GapChannel) (r : Item) (es : List Event) (found : Option Finding) → es ≡ row_events i e k g r → found ≡ slice_get (findings_of es) 0 → option_to_list found ≡ findings_of (row_events i e k g r)
one_finding i e k g r es found is first =
    let one = row_few 1 (λ n. 0) 1 i k g r (λ n few. omega arith) in
    let same = findings_weight (map event_of (stamp e (Some k) r (row_step i k g r).reported)) in
    let own = stamp_weight 1 (λ n. 0) e (Some k) r (row_step i k g r).reported in
    ap option_to_list (first ∙ ap (λ l. slice_get (findings_of l) 0) is) ∙ first_alone (findings_of (row_events i e k g r)) (omega arith)

-- ---- the events of a row, under the channel's own names

-- It reads the equalities one by one, so that a wrong one is refused before any event is computed.
pub events_are : {i i' : Interface} {e e' k k' : ℕ} (none es : List Event) (c : GapChannel) (r : Item) (n : Option ℕ)
    → es ++ data_events e k r n ≡ none ++ row_events i e k c r → none ≡ [] → i ≡ i' → e ≡ e' → k ≡ k' → es ++ data_events e' k' r n ≡ row_events i' e' k' c r
events_are none es c r n is is_none interface epoch number =
    sym (λ j. es ++ data_events (epoch j) (number j) r n) ∙ is ∙ (λ j. is_none j ++ row_events (interface j) (epoch j) (number j) c r)

-- ---- bounds

-- a piece has no more data packets than rows
piece_packets : (p : Piece) → length (all_lengths (piece_events p)) ≤ length p.items
piece_packets p =
    let same = packets_weight (piece_events p) in
    let few = piece_few 0 (λ n. 1) (λ r. 1) (λ r n few. omega arith) p.interface p.epoch p.channel (fresh_at p.interface p.start p.epoch p.channel) p.items (option_map row_of_end p.end) in
    let each = total-ones p.items in
    omega arith

pub piece_countable : (p : Piece) → IsPiece p.interface p.channel p.items → IsCountable (piece_events p)
piece_countable p h =
    let few = value_bounds p h in
    record {
      packets = omega (arith, piece_packets p, h.few_rows);
      octets = omega (arith, few.few_octets);
    }

pub piece_within : (p : Piece) → IsPiece p.interface p.channel p.items → IsWithin (piece_events p)
piece_within p h = value_bounds p h

-- ---- what is counted

findings-more : (es : List Event) (vs : List Event) → findings_of (es ++ vs) ≡ findings_of es ++ findings_of vs
findings-more es vs = filter_map-append (λ (e : Event). elim e.what [ Found x s c ↦ Some (record { packet = e.packet; side = x; state = s; code = c }) | _ ↦ None ]) es vs

pub findings_added : (es vs : List Event) (old new : List Finding) → old ≡ findings_of es → new ≡ old ++ findings_of vs → new ≡ findings_of (es ++ vs)
findings_added es vs old new is step = step ∙ ap (λ l. l ++ findings_of vs) is ∙ sym (findings-more es vs)

lengths-more : (es vs : List Event) → all_lengths (es ++ vs) ≡ all_lengths es ++ all_lengths vs
lengths-more es vs = filter_map-append (λ (e : Event). elim e.what [ Data y n ↦ Some n | _ ↦ None ]) es vs

pub octets_added : (es vs : List Event) (old by new : ℕ) → old ≡ sum (all_lengths es) → by ≡ sum (all_lengths vs) → new ≡ min (old + by) (2 ^ 64 - 1) → IsCountable (es ++ vs) → new ≡ sum (all_lengths (es ++ vs))
octets_added es vs old by new is more step few =
    let both = ap sum (lengths-more es vs) ∙ sum-more (all_lengths es) (all_lengths vs) in
    omega (arith, is, more, step, both, few.octets)

pub segments_added : (es vs : List Event) (old by new : ℕ) → old ≡ segments_of (all_lengths es) → by ≡ segments_of (all_lengths vs) → new ≡ min (old + by) (2 ^ 64 - 1) → IsCountable (es ++ vs) → new ≡ segments_of (all_lengths (es ++ vs))
segments_added es vs old by new is more step few =
    let rounded : List ℕ → List ℕ = map (λ n. (n + 63) / 64) in
    let both : segments_of (all_lengths (es ++ vs)) ≡ segments_of (all_lengths es) + segments_of (all_lengths vs) =
    ap segments_of (lengths-more es vs) ∙ ap sum (map-append (λ (n : ℕ). (n + 63) / 64) (all_lengths es) (all_lengths vs)) ∙ sum-more (rounded (all_lengths es)) (rounded (all_lengths vs)) in
    let all : List Event = es ++ vs in
    omega (arith, is, more, step, both, few.octets, octets_weight all, segments_weight all, fewer_segments all)

-- ---- the event of a data packet

abbrev with_what : Event → What → Event
with_what e w = record { epoch = e.epoch; channel = e.channel; packet = e.packet; what = w }

pub data_finds_nothing : (e : Event) (x : Side) (n : ℕ) (fs : List Finding) → e.what ≡ Data x n → fs ≡ fs ++ findings_of (e ∷ [])
data_finds_nothing e x n fs is = sym (ap (λ w. fs ++ findings_of (with_what e w ∷ [])) is ∙ append-nil fs)

pub data_octets : (e : Event) (x : Side) (n : ℕ) → e.what ≡ Data x n → n ≡ sum (all_lengths (e ∷ []))
data_octets e x n is = let one : sum (all_lengths (with_what e (Data x n) ∷ [])) ≡ n = omega arith in sym (ap (λ w. sum (all_lengths (with_what e w ∷ []))) is ∙ one)

pub data_segments : (e : Event) (x : Side) (n : ℕ) → e.what ≡ Data x n → segments_of (all_lengths (e ∷ [])) ≡ segments_of (n ∷ [])
data_segments e x n is = ap (λ w. segments_of (all_lengths (with_what e w ∷ []))) is

-- ---- events, one after the other

all_at : (P : Event → Type 0) (es : List Event) (i : ℕ) (d : Event) → AllByRecursion P es → i < length es → P (get_or es i d)
all_at P [] i d h lt = absurd (omega arith)
all_at P (e ∷ es) zero d h lt = h.0
all_at P (e ∷ es) (suc i) d h lt = all_at P es i d h.1 (omega arith)

pub counted_on : (P Q : List Event → Type 0) (epoch channel : ℕ) (es vs : List Event) (i : ℕ) (e : Event) → i < length vs → e ≡ get_or vs i e → AllByRecursion (IsOf epoch channel) vs → IsCountable (es ++ vs)
    → P (es ++ take i vs) → (P (es ++ take i vs) → IsOf epoch channel e → IsCountable ((es ++ take i vs) ++ e ∷ []) → Q ((es ++ take i vs) ++ e ∷ [])) → Q (es ++ take (i + 1) vs)
counted_on P Q epoch channel es vs i e lt is all few h step =
    let more : take (i + 1) vs ≡ take i vs ++ e ∷ [] = take_more vs i e lt ∙ ap (λ x. take i vs ++ x ∷ []) (sym is) in
    let whole : es ++ take (i + 1) vs ≡ (es ++ take i vs) ++ e ∷ [] = ap (λ l. es ++ l) more ∙ sym (append_assoc es (take i vs) (e ∷ [])) in
    let parts : es ++ vs ≡ (es ++ take (i + 1) vs) ++ drop (i + 1) vs = ap (λ l. es ++ l) (sym (take-append-drop (i + 1) vs)) ∙ sym (append_assoc es (take (i + 1) vs) (drop (i + 1) vs)) in
    let few_so_far : IsCountable ((es ++ take i vs) ++ e ∷ []) = subst IsCountable whole (countable_before (es ++ take (i + 1) vs) (drop (i + 1) vs) (subst IsCountable parts few)) in
    let of : IsOf epoch channel e = subst (IsOf epoch channel) (sym is) (all_at (IsOf epoch channel) vs i e all lt) in
    subst Q (sym whole) (step h of few_so_far)

pub findings_on : (first old new : List Finding) (vs : List Event) (i : ℕ) (e : Event) → i < length vs → e ≡ get_or vs i e → old ≡ first ++ findings_of (take i vs) → new ≡ old ++ findings_of (e ∷ []) → new ≡ first ++ findings_of (take (i + 1) vs)
findings_on first old new vs i e lt is h step =
    let more : take (i + 1) vs ≡ take i vs ++ e ∷ [] = take_more vs i e lt ∙ ap (λ x. take i vs ++ x ∷ []) (sym is) in
    step
    ∙ ap (λ l. l ++ findings_of (e ∷ [])) h
    ∙ append_assoc first (findings_of (take i vs)) (findings_of (e ∷ []))
    ∙ ap (λ l. first ++ l) (sym (findings-more (take i vs) (e ∷ [])) ∙ ap findings_of (sym more))

-- ---- the first finding after others

at_index : (fs : List Finding) (i : ℕ) (d : Finding) → i < length fs → slice_get fs i ≡ Some (get_or fs i d)
at_index [] i d lt = absurd (omega arith)
at_index (f ∷ fs) zero d lt = refl
at_index (f ∷ fs) (suc i) d lt = at_index fs i d (omega arith)

item_at : (fs : List Finding) (i : ℕ) (r : Option (Bor Finding)) → IsItemAt fs i r → option_copied r ≡ slice_get fs i
item_at fs i None h = sym (slice_get_past fs i h.3)
item_at fs i (Some x) h = ap (λ f. Some f) (h.4 (omega arith) x.now) ∙ sym (at_index fs i x.now h.3.0)

behind : (fs gs : List Finding) → slice_get (fs ++ gs) (length fs) ≡ slice_get gs 0
behind [] gs = refl
behind (f ∷ fs) gs = behind fs gs

pub first_found : (first now : List Finding) (i : ℕ) (vs : List Event) (n : ℕ) (r : Option (Bor Finding)) → IsItemAt now n r → n ≡ length first → length vs ≤ i → now ≡ first ++ findings_of (take i vs) → option_copied r ≡ slice_get (findings_of vs) 0
first_found first now i vs n r h at le is =
    item_at now n r h
    ∙ ap (λ k. slice_get now k) at
    ∙ ap (λ l. slice_get l (length first)) (is ∙ ap (λ l. first ++ findings_of l) (take_all i vs le))
    ∙ behind first (findings_of vs)

pub whole_list : (vs : List Event) (i : ℕ) → length vs ≤ i → take i vs ≡ vs
whole_list vs i le = take_all i vs le

-- ---- a piece of no rows

pub empty_small : (i : Interface) (k : ℕ) → IsPiece i k []
empty_small i k = record {
  few_rows = omega arith;
  few_octets = omega arith;
  packets = λ n d lt. absurd (omega arith);
}

last_at : (items : List Item) (item : Item) → get_or (items ++ item ∷ []) (length items) item ≡ item
last_at [] item = refl
last_at (x ∷ items) item = last_at items item

pub last_item : (i : Interface) (k : ℕ) (items : List Item) (item : Item) → IsPiece i k (items ++ item ∷ []) → IsItem i k item
last_item i k items item h = subst (IsItem i k) (last_at items item) (h.packets (length items) item (omega (arith, length-append items (item ∷ []))))

-- ---- the end of a piece

-- the end of a call that is open or not, on a channel that may be restarting or not
ends : (g : GapChannel) (n : PieceEnd) (b q : Bool) → b ≡ is_open g.channel → q ≡ g.restarting → epoch_end_if b (end_of_epoch (q && n.missed)) ≡ epoch_end g (row_of_end n)
ends g n b q is restarting = λ j. epoch_end_if (is j) (end_of_epoch (restarting j && sym (end_confirms n.missed) j))

pub end_adds : (p : Piece) (n : PieceEnd) (b q : Bool) → b ≡ is_open (channel_so_far p).channel → b ≡ true → q ≡ (channel_so_far p).restarting
    → piece_events (so_far p) ++ record { epoch = p.epoch; channel = p.channel; packet = n.row; what = End (end_of_epoch (q && n.missed)) } ∷ [] ≡ piece_events (record p { end = Some n })
end_adds p n b q is opened restarting =
    ap (λ ws. piece_events (so_far p) ++ map event_of (stamp p.epoch (Some p.channel) (row_of_end n) ws))
    (ap (λ o. epoch_end_if o (end_of_epoch (q && n.missed))) (sym opened) ∙ ends (channel_so_far p) n b q is restarting)
    ∙ sym (piece_ended p (Some n))

pub end_adds_nothing : (p : Piece) (n : PieceEnd) (b : Bool) → b ≡ is_open (channel_so_far p).channel → b ≡ false → piece_events (so_far p) ≡ piece_events (record p { end = Some n })
end_adds_nothing p n b is closed =
    let g : GapChannel = channel_so_far p in
    sym (append-nil (piece_events (so_far p)))
    ∙ ap (λ ws. piece_events (so_far p) ++ map event_of (stamp p.epoch (Some p.channel) (row_of_end n) ws))
    (ap (λ o. epoch_end_if o (end_of_epoch (g.restarting && n.missed))) (sym closed) ∙ ends g n b g.restarting is refl)
    ∙ sym (piece_ended p (Some n))

-- ---- the first rows of a piece

pub piece_part : (i : Interface) (k : ℕ) (items : List Item) (n : ℕ) → IsPiece i k items → IsPiece i k (take n items)
piece_part i k items n h =
    let parts = take-append-drop n items in
    record {
      few_rows = omega (arith, ap length parts, length-append (take n items) (drop n items), h.few_rows);
      few_octets = omega (arith, ap all_octets parts, sum_by-append (λ (x : Item). x.length) (take n items) (drop n items), h.few_octets);
      packets = All-take (IsItem i k) n items h.packets;
    }

-- a row that comes after the first rows of a piece may come there
pub next_item : (i : Interface) (k : ℕ) (items front left rest : List Item) (next : Item) → IsPiece i k items → items ≡ front ++ left → left ≡ next ∷ rest → IsPiece i k (front ++ next ∷ [])
next_item i k items front left rest next h all first =
    let more : items ≡ (front ++ next ∷ []) ++ rest = all ∙ ap (λ l. front ++ l) first ∙ sym (append_assoc front (next ∷ []) rest) in
    subst (IsPiece i k) (ap (take (length (front ++ next ∷ []))) more ∙ take-append_seam (front ++ next ∷ []) rest) (piece_part i k items (length (front ++ next ∷ [])) h)
