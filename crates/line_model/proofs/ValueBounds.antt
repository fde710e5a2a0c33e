-- The result of a piece is within its rows.
use Rattle.std.proofs.Common.{◌≡◌, ℕ, ◌+◌, ◌≤◌, Bool, cond, not, ◌||◌, Option, List, [], ◌∷◌, map, sym, ap, subst, arith}
use Rattle.std.specs.Prelude.{option_map, take_while}
use Rattle.std.specs.List.{AllByRecursion}
use Rattle.std.proofs.lemmas.List.Sums.{take_while-cons}
use Rattle.line_model.specs.declared.event.What.{What}
use Rattle.line_model.specs.declared.event.What.TheVariants.{Open, End, Data}
use Rattle.line_model.specs.declared.event.Event.{Event}
use Rattle.line_model.specs.basics.Records.{Item, Piece, CallRecord}
use Rattle.line_model.specs.channels.Gaps.{GapChannel, fresh_at}
use Rattle.line_model.specs.pieces.Pieces.{events_of_steps}
use Rattle.line_model.specs.observer.MachineEvents.{RowEvent}
use Rattle.line_model.specs.observer.Observer.{x25, event_of}
use Rattle.line_model.specs.observer.Calls.{is_end, is_opening, members, record_of, calls_of}
use Rattle.line_model.specs.pieces.Plans.{row_of_end, piece_events, result_of}
use Rattle.line_model.specs.basics.Bounds.{IsPiece, IsPieceReport}
use Rattle.line_model.proofs.EventWeights.{total, total-sum_by, accepted_by, octets_by, segments_by, weight, findings_weight, octets_weight, segments_weight, sides_weight, fewer_segments}
use Rattle.line_model.proofs.PieceCalls.{IsOf, piece_of_one, alongside_all}
use Rattle.line_model.proofs.GapWeights.{piece_few}
use Rattle.line_model.proofs.RowWeights.{total-ones}

-- ---- the calls of a piece

abbrev goes_on : Event → Bool
goes_on f = not (is_end f || is_opening f)

-- the events of the first call, and those of the calls that are opened later, are apart
few_in_calls : (q : ℕ → ℕ) (f : CallRecord → ℕ) → ((e : Event) (o : Bool) (a b : List ℕ) (r : Bool) (later : List Event) → f (record_of e o a b r later) ≡ weight (accepted_by q) (members e later))
    → (e k : ℕ) (vs : List (RowEvent Item What)) → AllByRecursion (IsOf e k) vs
    → total f (calls_of (map event_of vs)) + weight (accepted_by q) (take_while goes_on (map event_of vs)) ≤ weight (accepted_by q) (map event_of vs)
few_in_calls q f is e k [] all = omega arith
few_in_calls q f is e k (v ∷ vs) all =
    subst (λ l. total f (calls_of (map event_of (v ∷ vs))) + weight (accepted_by q) l ≤ weight (accepted_by q) (map event_of (v ∷ vs)))
    (sym (take_while-cons goes_on (event_of v) (map event_of vs))) (at v.epoch v.channel v.row v.what all.0 (few_in_calls q f is e k vs all.1))
  where
    at : (d : ℕ) (c : Option ℕ) (x : Item) (w : What) → IsOf e k (record { epoch = d; channel = c; row = x; what = w })
        → total f (calls_of (map event_of vs)) + weight (accepted_by q) (take_while goes_on (map event_of vs)) ≤ weight (accepted_by q) (map event_of vs)
        → total f (calls_of (map event_of (record { epoch = d; channel = c; row = x; what = w } ∷ vs)))
        + weight (accepted_by q) (cond (goes_on (event_of (record { epoch = d; channel = c; row = x; what = w }))) (event_of (record { epoch = d; channel = c; row = x; what = w }) ∷ take_while goes_on (map event_of vs)) [])
        ≤ accepted_by q w + weight (accepted_by q) (map event_of vs)
    at d c x (Open o a b r) its h =
        let u : RowEvent Item What = record { epoch = d; channel = c; row = x; what = Open o a b r } in
        let own = is (event_of u) o a b r (map event_of vs) in
        let same = ap (λ l. weight (accepted_by q) (take_while goes_on l)) (alongside_all Item (λ r. r.number) e k u its vs all.1) in
        omega arith
    at d c x (End t) its h = omega arith
    at d c x (Data y n) its h = omega arith
    at d c x w its h = omega arith

octets_in_call : (e : Event) (o : Bool) (a b : List ℕ) (r : Bool) (later : List Event)
    → (record_of e o a b r later).oct_t + (record_of e o a b r later).oct_n ≡ weight (accepted_by octets_by) (members e later)
octets_in_call e o a b r later = sides_weight (members e later)

segments_in_call : (e : Event) (o : Bool) (a b : List ℕ) (r : Bool) (later : List Event)
    → (record_of e o a b r later).segments ≡ weight (accepted_by segments_by) (members e later)
segments_in_call e o a b r later = segments_weight (members e later)

-- ---- all together

pub value_bounds : (p : Piece) → IsPiece p.interface p.channel p.items → IsPieceReport (result_of p).findings (result_of p).calls (result_of p).octets (result_of p).segments
value_bounds p h =
    let c : GapChannel = fresh_at p.interface p.start p.epoch p.channel in
    let end : Option Item = option_map row_of_end p.end in
    let vs : List (RowEvent Item What) = events_of_steps (x25 p.interface) p.epoch p.channel c p.items end in
    let es : List Event = piece_events p in
    let one = piece_of_one (x25 p.interface) p.epoch p.channel c p.items end in
    let octets = octets_weight es in
    let segments = segments_weight es in
    let within = piece_few 0 octets_by (λ r. r.length) (λ r n few. omega (arith, few)) p.interface p.epoch p.channel c p.items end in
    let whole = total-sum_by (λ (i : Item). i.length) p.items in
    let rounded = fewer_segments es in
    let findings = findings_weight es in
    let once = piece_few 1 (λ n. 0) (λ r. 1) (λ r n few. omega arith) p.interface p.epoch p.channel c p.items end in
    let each = total-ones p.items in
    let rows = h.few_rows in
    let all = h.few_octets in
    let of_octets = few_in_calls octets_by (λ r. r.oct_t + r.oct_n) octets_in_call p.epoch p.channel vs one in
    let of_segments = few_in_calls segments_by (λ r. r.segments) segments_in_call p.epoch p.channel vs one in
    let call_octets = total-sum_by (λ (r : CallRecord). r.oct_t + r.oct_n) (calls_of es) in
    let call_segments = total-sum_by (λ (r : CallRecord). r.segments) (calls_of es) in
    record {
      few_findings = omega (arith, findings, once, each, rows);
      few_octets = omega (arith, octets, within, whole, all);
      few_segments = omega (arith, octets, segments, rounded, within, whole, all);
      call_octets = omega (arith, octets, of_octets, call_octets);
      call_segments = omega (arith, segments, of_segments, call_segments);
    }
