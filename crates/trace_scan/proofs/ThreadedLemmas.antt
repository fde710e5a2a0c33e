-- Where reading and working stop, and what the workers' reports are.
use Rattle.std.proofs.Common.{◌≡◌, ◌∙◌, sym, ap, subst, refl, ℕ, ◌+◌, ◌^◌, true, List, [], ◌∷◌, length, take, Option, Some, None, Result, Ok, Err, ◌⊎◌, inl, inr}
use Rattle.std.specs.Prelude.{All, IfErr, IfOk, IfSome, MatchResult, is_ok, map}
use Rattle.std.proofs.lemmas.List.Sorted.{All-permutation, IsPermutation-sym}
use Rattle.std.specs.List.Sorted.{IsStrictlyIncreasing}
use Rattle.line_model.specs.declared.fault.Fault.{Fault}
use Rattle.line_model.specs.declared.fault.Fault.TheVariants.{Memory, Trace, Read as ReadFailed, Write, Start}
use Rattle.trace_reading.specs.declared.feeding.Read.{Read}
use Rattle.trace_reading.specs.Readings.{IsOutcome, IsReadingFault, in_flight}
use Rattle.live_report.specs.Reports.{IsTaken, IsPartTaken}
use Rattle.trace_text.specs.Refusals.{IsRefusal}
use Rattle.trace_scan.specs.declared.threaded.ScanParts.{ScanParts}
use Rattle.trace_scan.specs.Threaded.{AreRuns, AreScanParts, IsStopFault, IsStopped, IsWorkedFault}
use Rattle.line_model.specs.declared.totals.Totals.{Totals}
use Rattle.line_model.specs.basics.Records.{Item, Piece, PieceReport}
use Rattle.line_model.specs.packets.Says.{items_of}
use Rattle.line_model.proofs.Saying.{all_said, said_numbers}
use Rattle.line_model.specs.basics.Device.{with_more}
use Rattle.line_model.specs.text.Text.{fault, rows}
use Rattle.line_model.specs.traces.Traces.{trace_plan, trace_report}
use Rattle.line_model.specs.pieces.Plans.{plan, channel_totals, result_of}
use Rattle.line_model.specs.work.Book.{KnownPlan, AreOf}
use Rattle.line_model.proofs.Posts.{whole}
use Rattle.line_model.proofs.TextLemmas.{early-nothing}
use Rattle.line_model.proofs.BookTotals.{totals_law}
use Rattle.line_model.proofs.TextRows.{rows_law}
use Rattle.trace_text.proofs.DecidedLemmas.{all_sound}
use Rattle.trace_text.proofs.RowsOfText.{text_rises}
use Rattle.report_merge.specs.Merged.{IsOfWalk}
use Rattle.report_merge.proofs.Posted.{permuted_posts}
use Rattle.workers.specs.declared.gathering.Gathered.{Gathered}
use Rattle.workers.specs.Gathers.{IsWhole, reports_of}
use Rattle.workers.specs.Vouching.{IsRunOfOne}
use Rattle.trace_reading.specs.Readings.{IsReadOf}
use Rattle.trace_scan.specs.Threaded.{trace_totals}
use Rattle.live_report.proofs.ScanLemmas.{memory_refused}

-- ---- which faults there are

pub stop_worked : (f : Fault) → IsStopFault f → IsWorkedFault f
stop_worked Memory h = tt
stop_worked (Trace line kind) h = tt
stop_worked ReadFailed h = tt
stop_worked Start h = tt
stop_worked _ h = absurd h

pub memory_worked : (f : Fault) → f ≡ Memory → IsWorkedFault f
memory_worked f m = subst IsWorkedFault (sym m) tt

pub write_worked : (f : Fault) → f ≡ Write → IsWorkedFault f
write_worked f w = subst IsWorkedFault (sym w) tt

same_fault : {T : Type 0} (f e : Fault) → Path (Result T Fault) (Err f) (Err e) → f ≡ e
same_fault f e h = cc

-- what stops is no failure of the sink
pub stop_no_write : {T : Type 0} (f : Fault) → IsStopFault f → Path (Result T Fault) (Err f) (Err Write) → ⊥
stop_no_write f h e = subst IsStopFault (same_fault f Write e) h

-- where the sink failed, it accepted a first part of the report
pub part_taken : (f : Fault) (text : List ℕ) (before after : Option (List ℕ)) → fault text ≡ None → f ≡ Write → IsTaken before after (trace_report text) f → IsPartTaken before after
part_taken f text before after sound w taken =
    let some : (n : ℕ) × (after ≡ with_more before (take n (trace_report text))) = subst (IsTaken before after (trace_report text)) w taken in
    record { text = text; sound = sound; bytes = some.0; taken = some.1 }

-- ---- where reading and working stop

reading_stops : (f : Fault) → IsReadingFault f → IsStopFault f
reading_stops Memory h = tt
reading_stops (Trace line kind) h = tt
reading_stops ReadFailed h = tt
reading_stops _ h = absurd h

memory_stops : (f : Fault) → f ≡ Memory → IsStopFault f
memory_stops f m = subst IsStopFault (sym m) tt

worker_stopped : {A : Type 0} (o : Option (Result (Read A) Fault)) (before after asked : Option (List ℕ)) (failed : Type 0) (fed : List Piece) (f : Fault) → IfSome o (λ r. is_ok r ≡ true) → IsOutcome before after asked failed fed o → f ≡ Memory → IsStopped before after asked f
worker_stopped None before after asked failed fed f k h m = absurd h
worker_stopped (Some (Err e)) before after asked failed fed f k h m = absurd (cc)
worker_stopped (Some (Ok read)) before after asked failed fed f k h m = record {
  kinds = memory_stops f m;
  refused = λ text shown. let all = h.shown text shown in memory_refused in_flight text after asked f m all.1 all.2 all.0.sound;
}

-- the task came back without a run: no byte was read
unfed_refusal : (rest : List ℕ) (f : Fault) → (f ≡ Memory) ⊎ (f ≡ Start) → IsRefusal in_flight [] rest f
unfed_refusal rest f (inl m) = subst (IsRefusal in_flight [] rest) (sym m) (all_sound (in_flight + 2 ^ 16) [] early-nothing)
unfed_refusal rest f (inr s) = subst (IsRefusal in_flight [] rest) (sym s) refl

unfed_stops : (f : Fault) → (f ≡ Memory) ⊎ (f ≡ Start) → IsStopFault f
unfed_stops f (inl m) = subst IsStopFault (sym m) tt
unfed_stops f (inr s) = subst IsStopFault (sym s) tt

pub unfed_stopped : (before after asked : Option (List ℕ)) (f : Fault) → after ≡ before → (f ≡ Memory) ⊎ (f ≡ Start) → IsStopped before after asked f
unfed_stopped before after asked f same why = record {
  kinds = unfed_stops f why;
  refused = λ text shown. record { given = []; rest = text; whole = refl; left = same ∙ shown; order = inl refl; refusal = unfed_refusal text f why };
}

pub stopped : {T A W : Type 0} (r : Result T Fault) (o : Option (Result (Read A) Fault)) (g : Result W Fault) (before after asked : Option (List ℕ)) (failed : Type 0) (fed : List Piece) (made : W → Type 0)
    → IfErr r (λ f. (o ≡ Some (Err f)) ⊎ (IfSome o (λ p. is_ok p ≡ true) × (g ≡ Err f))) → IsOutcome before after asked failed fed o → MatchResult g made (λ f. f ≡ Memory)
    → IfErr r (IsStopped before after asked)
stopped (Ok t) o g before after asked failed fed made first h m = tt
stopped (Err f) o g before after asked failed fed made (inl e) h m =
    let read = subst (λ p. IsOutcome before after asked failed fed p) e h in
    record { kinds = reading_stops f read.kinds; refused = λ text shown. read.refused text shown }
stopped (Err f) o g before after asked failed fed made (inr w) h m =
    worker_stopped o before after asked failed fed f w.0 h (subst (λ q. MatchResult q made (λ f. f ≡ Memory)) w.1 m)

-- ---- what was read and posted

pub parts_are : {A : Type 0} (r : Result (ScanParts A) Fault) (o : Option (Result (Read A) Fault)) (g : Result (Gathered A (List PieceReport)) Fault) (known : KnownPlan) (ran : Piece → PieceReport → Type 0) (workers : ℕ) (before after asked : Option (List ℕ)) (failed : Type 0) (fed : List Piece)
    → IfOk r (λ t. (o ≡ Some (Ok t.read)) × (g ≡ Ok t.gathered)) → IsOutcome before after asked failed fed o → MatchResult g (IsWhole known ran workers fed) (λ f. f ≡ Memory)
    → IfOk r (AreScanParts known ran workers before after asked)
parts_are (Err f) o g known ran workers before after asked failed fed both h m = tt
parts_are (Ok t) o g known ran workers before after asked failed fed both h m =
    let read = subst (λ p. IsOutcome before after asked failed fed p) both.0 h in
    record { fed = fed; whole = subst (λ q. MatchResult q (IsWhole known ran workers fed) (λ f. f ≡ Memory)) both.1 m; shown = λ text shown. read.shown text shown; of_text = read.of_text }

-- the pieces that were fed are those of the plan, so the reports are those of the walk over what the rows of the text say
pub of_walk : {A : Type 0} (known : KnownPlan) (ran : Piece → PieceReport → Type 0) (workers : ℕ) (text : List ℕ) (fed : List Piece) (read : Read A) (g : Gathered A (List PieceReport))
    → IsReadOf text fed read → IsWhole known ran workers fed g → IsOfWalk read.interface (items_of read.interface (rows text)) (reports_of g) read.interface_findings.items read.counts read.pieces
of_walk known ran workers text fed read g r w =
    let items : List Item = items_of read.interface (rows text) in
    let of_fed : AreOf (Some (plan read.interface items)) (reports_of g) = subst (λ ps. AreOf (Some ps) (reports_of g)) r.cut.all w.of_fed in
    let count : length fed ≡ length (plan read.interface items) = ap (λ (ps : List Piece). length ps) r.cut.all in
    record {
      said = all_said read.interface (rows text) (rows_law text read.interface r.header);
      rising = subst (λ ns. IsStrictlyIncreasing (0 ∷ ns)) (sym (said_numbers read.interface (rows text))) (text_rises text r.sound);
      values = permuted_posts (plan read.interface items) (reports_of g) of_fed (w.number ∙ count);
      line_is = r.cut.interface_findings;
      packets_are = r.cut.packets;
      gaps_are = r.cut.gaps;
      pieces_are = r.cut.pieces ∙ count;
    }

pub totals_are : {A : Type 0} (known : KnownPlan) (ran : Piece → PieceReport → Type 0) (workers : ℕ) (text : List ℕ) (fed : List Piece) (read : Read A) (g : Gathered A (List PieceReport)) → IsReadOf text fed read → IsWhole known ran workers fed g → g.totals ≡ trace_totals text
totals_are known ran workers text fed read g r w =
    let items : List Item = items_of read.interface (rows text) in
    let of_fed : AreOf (Some (plan read.interface items)) (reports_of g) = subst (λ ps. AreOf (Some ps) (reports_of g)) r.cut.all w.of_fed in
    w.sums
    ∙ whole (plan read.interface items) (reports_of g) of_fed (w.number ∙ ap (λ (ps : List Piece). length ps) r.cut.all)
    ∙ totals_law read.interface items (all_said read.interface (rows text) (rows_law text read.interface r.header))
    ∙ sym (ap (λ o. elim o as (λ _. Totals) [ None ↦ record { posts = 0; findings = 0; octets = 0; segments = 0 } | Some i ↦ channel_totals i (items_of i (rows text)) ]) r.header)

pub runs_are : {A : Type 0} (known : KnownPlan) (ran : Piece → PieceReport → Type 0) (workers : ℕ) (text : List ℕ) (fed : List Piece) (read : Read A) (g : Gathered A (List PieceReport)) → IsReadOf text fed read → IsWhole known ran workers fed g → AreRuns ran text
runs_are known ran workers text fed read g r w =
    let ps : List Piece = plan read.interface (items_of read.interface (rows text)) in
    let is_plan : ps ≡ trace_plan text = sym (ap (λ o. elim o as (λ _. List Piece) [ None ↦ [] | Some i ↦ plan i (items_of i (rows text)) ]) r.header) in
    let runs : All (IsRunOfOne ran ps) (reports_of g) = subst (λ l. All (IsRunOfOne ran l) (reports_of g)) r.cut.all w.runs in
    let same = IsPermutation-sym (map result_of ps) (reports_of g) (of_walk known ran workers text fed read g r w).values in
    subst (λ l. All (IsRunOfOne ran l) (map result_of l)) is_plan (All-permutation (IsRunOfOne ran ps) (reports_of g) (map result_of ps) same runs)
