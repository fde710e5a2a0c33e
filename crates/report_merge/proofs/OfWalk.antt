-- The merged report of a plan's values is the report of the walk.
use Rattle.std.proofs.Common.{◌≡◌, ℕ, Bool, true, false, not, Option, Some, None, List, [], ◌∷◌, ◌++◌, length, map, refl, sym, ap, ◌∙◌, subst}
use Rattle.std.specs.Prelude.{sum, sum_by, ◌-◌}
use Rattle.std.specs.List.{filter, flat_map}
use Rattle.std.specs.List.Sorted.{IsPermutation}
use Rattle.std.proofs.lemmas.List.Sorted.{IsPermutation-refl, IsPermutation-sym, IsPermutation-trans, IsPermutation-append, sum_by-IsPermutation}
use Rattle.line_model.specs.declared.interface.Interface.{Interface}
use Rattle.line_model.specs.declared.route.Route.{Route}
use Rattle.line_model.specs.declared.route.Route.TheVariants.{Found as ErrorFound, Leave}
use Rattle.line_model.specs.declared.event.What.{What}
use Rattle.line_model.specs.declared.event.What.TheVariants.{Data}
use Rattle.line_model.specs.declared.finding.Finding.{Finding}
use Rattle.line_model.specs.basics.Records.{Item, CallRecord, PieceReport, Report}
use Rattle.line_model.specs.basics.Bounds.{AreSaid}
use Rattle.line_model.specs.observer.MachineEvents.{RowEvent, walk_events}
use Rattle.line_model.specs.pieces.Merge.{is_level}
use Rattle.line_model.specs.observer.Peak.{how_many, IsPeakOfTimes}
use Rattle.line_model.specs.channels.GapRestart.{routing}
use Rattle.line_model.specs.observer.Observer.{x25, start, event_of, events, peak, route_found}
use Rattle.line_model.specs.observer.Calls.{all_lengths, segments_of, calls_of, up_at}
use Rattle.line_model.specs.observer.Accounts.{accounts_of}
use Rattle.line_model.specs.observer.Report.{findings_of, gaps_of, report_of}
use Rattle.line_model.specs.pieces.Plans.{plan, result_of, level_findings, channel_events_of}
use Rattle.line_model.proofs.Rising.{rises-from_index}
use Rattle.line_model.proofs.LevelPart.{level_none}
use Rattle.line_model.proofs.BookTotals.{totals_law}
use Rattle.line_model.proofs.InOrder.{findings_order, calls_order}
use Rattle.line_model.proofs.CallPeaks.{increasing}
use Rattle.line_model.proofs.PeakOfCalls.{calls_peak}
use Rattle.report_merge.specs.Merged.{IsMerged, IsOfWalk}
use Rattle.report_merge.specs.declared.row_counts.RowCounts.{RowCounts}
use Rattle.report_merge.proofs.SortedLists.{sorted_unique, flat_map_permuted, flat_map-map}
use Rattle.line_model.proofs.Peaks.{peak_unique}

-- ---- data packets are of channels alone

abbrev is_data_event : What → Bool
is_data_event (Data x n) = true
is_data_event w = false

line_is_no_data : (r : Item) (v : Route) → how_many is_data_event (route_found r v) ≡ 0
line_is_no_data r (ErrorFound s n) = refl
line_is_no_data r (Leave (Some n)) = refl
line_is_no_data r v = refl

lengths_apart : (vs : List (RowEvent Item What)) → filter (λ v. is_data_event v.what) (filter is_level vs) ≡ []
    → all_lengths (map event_of vs) ≡ all_lengths (map event_of (filter (λ v. not (is_level v)) vs))
lengths_apart [] h = refl
lengths_apart (v ∷ vs) h = at v.channel v.what h (lengths_apart vs)
  where
    at : (c : Option ℕ) (w : What)
        → filter (λ v. is_data_event v.what) (filter is_level (record { epoch = v.epoch; channel = c; row = v.row; what = w } ∷ vs)) ≡ []
        → (filter (λ v. is_data_event v.what) (filter is_level vs) ≡ [] → all_lengths (map event_of vs) ≡ all_lengths (map event_of (filter (λ v. not (is_level v)) vs)))
        → all_lengths (map event_of (record { epoch = v.epoch; channel = c; row = v.row; what = w } ∷ vs))
        ≡ all_lengths (map event_of (filter (λ v. not (is_level v)) (record { epoch = v.epoch; channel = c; row = v.row; what = w } ∷ vs)))
    at None (Data x n) h later = absurd (cc)
    at None w h later = later h
    at (Some k) (Data x n) h later = ap (λ l. n ∷ l) (later h)
    at (Some k) w h later = later h

lengths_of_channels : (i : Interface) (rs : List Item) → all_lengths (events i rs) ≡ all_lengths (channel_events_of i rs)
lengths_of_channels i rs =
    lengths_apart (walk_events (x25 i) (start i) rs) (level_none (x25 i) is_data_event (λ e l x. line_is_no_data x (routing l x).route) (start i) rs)

-- ---- the parts of the report

findings_are : (i : Interface) (rs : List Item) (reports : List PieceReport) (line : List Finding) (counts : RowCounts) (pieces : ℕ) (r : Report)
    → IsOfWalk i rs reports line counts pieces → IsMerged r reports line counts → r.findings ≡ findings_of (events i rs)
findings_are i rs reports line counts pieces r w m =
    let own = findings_order i rs w.said (increasing (map (λ r. r.number) rs) w.rising) in
    let walked = findings_of (events i rs) in
    let found : PieceReport → List Finding = λ p. p.findings in
    let of_values = flat_map found (map result_of (plan i rs)) in
    let start_from : IsPermutation walked (level_findings i rs ++ of_values) =
    subst (λ l. IsPermutation walked (level_findings i rs ++ l)) (sym (flat_map-map found result_of (plan i rs)))
    (IsPermutation-sym (level_findings i rs ++ flat_map (λ p. (result_of p).findings) (plan i rs)) walked own.same_findings) in
    let reported : IsPermutation (level_findings i rs ++ of_values) (line ++ flat_map found reports) =
    subst (λ l. IsPermutation (level_findings i rs ++ of_values) (l ++ flat_map found reports)) (sym w.line_is)
    (IsPermutation-append (level_findings i rs) (level_findings i rs) of_values (flat_map found reports) (IsPermutation-refl (level_findings i rs)) (flat_map_permuted found (map result_of (plan i rs)) reports w.values)) in
    sorted_unique (λ f. f.packet) walked r.findings (rises-from_index (map (λ f. f.packet) walked) own.in_order) m.findings_sorted
    (IsPermutation-trans walked (level_findings i rs ++ of_values) r.findings start_from
    (IsPermutation-trans (level_findings i rs ++ of_values) (line ++ flat_map found reports) r.findings reported m.same_findings))

calls_are : (i : Interface) (rs : List Item) (reports : List PieceReport) (line : List Finding) (counts : RowCounts) (pieces : ℕ) (r : Report)
    → IsOfWalk i rs reports line counts pieces → IsMerged r reports line counts → r.calls ≡ calls_of (events i rs)
calls_are i rs reports line counts pieces r w m =
    let own = calls_order i rs w.said (increasing (map (λ r. r.number) rs) w.rising) in
    let walked = calls_of (events i rs) in
    let opened : PieceReport → List CallRecord = λ p. p.calls in
    let of_values = flat_map opened (map result_of (plan i rs)) in
    let start_from : IsPermutation walked of_values =
    subst (λ l. IsPermutation walked l) (sym (flat_map-map opened result_of (plan i rs)))
    (IsPermutation-sym (flat_map (λ p. (result_of p).calls) (plan i rs)) walked own.same_calls) in
    sorted_unique (λ c. c.opened) walked r.calls (rises-from_index (map (λ c. c.opened) walked) own.in_order) m.calls_sorted
    (IsPermutation-trans walked of_values r.calls start_from
    (IsPermutation-trans of_values (flat_map opened reports) r.calls (flat_map_permuted opened (map result_of (plan i rs)) reports w.values) m.same_calls))

octets_are : (i : Interface) (rs : List Item) → AreSaid i rs → (reports : List PieceReport) → IsPermutation (map result_of (plan i rs)) reports → sum_by (λ p. p.octets) reports ≡ sum (all_lengths (events i rs))
octets_are i rs said reports h =
    sum_by-IsPermutation (λ p. p.octets) (map result_of (plan i rs)) reports h ∙ ap (λ t. t.octets) (totals_law i rs said) ∙ ap sum (sym (lengths_of_channels i rs))

segments_are : (i : Interface) (rs : List Item) → AreSaid i rs → (reports : List PieceReport) → IsPermutation (map result_of (plan i rs)) reports → sum_by (λ p. p.segments) reports ≡ segments_of (all_lengths (events i rs))
segments_are i rs said reports h =
    sum_by-IsPermutation (λ p. p.segments) (map result_of (plan i rs)) reports h ∙ ap (λ t. t.segments) (totals_law i rs said) ∙ ap segments_of (sym (lengths_of_channels i rs))

-- ---- the report

pub report_is : (i : Interface) (rs : List Item) (reports : List PieceReport) (line : List Finding) (counts : RowCounts) (pieces : ℕ) (r : Report)
    → IsOfWalk i rs reports line counts pieces → IsMerged r reports line counts → r ≡ report_of i rs
report_is i rs reports line counts pieces r w m =
    let found = findings_are i rs reports line counts pieces r w m in
    let called = calls_are i rs reports line counts pieces r w m in
    let paid : r.accounts ≡ accounts_of (calls_of (events i rs)) = m.accounts ∙ ap accounts_of called in
    let top = peak_unique (up_at (calls_of (events i rs))) r.peak.count (peak i rs).0 r.peak.packet (peak i rs).1
    (subst (λ l. IsPeakOfTimes (up_at l) r.peak.count r.peak.packet) called m.peak) (calls_peak i rs w.said w.rising) in
    let packets : ℕ = length rs - gaps_of rs in
    let sums : r.summary ≡ (report_of i rs).summary =
    m.summary
    ∙ ap (λ n. record { packets = n; findings = length r.findings; calls = length r.calls; octets = sum_by (λ p. p.octets) reports; segments = sum_by (λ p. p.segments) reports }) w.packets_are
    ∙ ap (λ l. record { packets = packets; findings = length l; calls = length r.calls; octets = sum_by (λ p. p.octets) reports; segments = sum_by (λ p. p.segments) reports }) found
    ∙ ap (λ l. record { packets = packets; findings = length (findings_of (events i rs)); calls = length l; octets = sum_by (λ p. p.octets) reports; segments = sum_by (λ p. p.segments) reports }) called
    ∙ ap (λ n. record { packets = packets; findings = length (findings_of (events i rs)); calls = length (calls_of (events i rs)); octets = n; segments = sum_by (λ p. p.segments) reports }) (octets_are i rs w.said reports w.values)
    ∙ ap (λ n. record { packets = packets; findings = length (findings_of (events i rs)); calls = length (calls_of (events i rs)); octets = sum (all_lengths (events i rs)); segments = n }) (segments_are i rs w.said reports w.values) in
    let missed : r.gaps ≡ (report_of i rs).gaps = m.gaps ∙ w.gaps_are in
    let count = top.0 in
    let packet = top.1 in
    λ j. record { findings = found j; calls = called j; accounts = paid j; peak = record { count = count j; packet = packet j }; gaps = missed j; summary = sums j }
