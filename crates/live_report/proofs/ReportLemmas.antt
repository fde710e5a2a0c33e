-- The report of a trace text, from the observer of its rows.
use Rattle.std.proofs.Common.{Bool, Err, IfErr, IfOk, List, None, Ok, Option, Result, Some, [], ap, append-nil, false, length, refl, subst, sym, true, ℕ, ◌∷◌, ◌++◌, ◌∙◌, ◌≡◌}
use Rattle.std.specs.Prelude.{MatchOption}
use Rattle.line_model.specs.basics.Device.{with_more}
use Rattle.line_model.specs.basics.Records.{Item, ReadRow, Report, Row}
use Rattle.line_model.specs.observer.Report.{no_summary, report, report_of, text_of}
use Rattle.line_model.specs.text.Text.{early_rows, fault, head, rows}
use Rattle.line_model.specs.traces.Traces.{trace_report, trace_summary}
use Rattle.line_model.specs.declared.interface.Interface.{Interface}
use Rattle.line_model.specs.declared.fault.Fault.{Fault}
use Rattle.line_model.specs.declared.fault.Fault.TheVariants.{Memory, Trace, Write}
use Rattle.line_model.specs.declared.totals.Summary.{Summary}
use Rattle.trace_text.specs.Progress.{Progress}
use Rattle.trace_text.specs.Represents.{Represents as IsReaderOf, IsFaultOf, IsTextFault, last_row}
use Rattle.trace_text.proofs.RefusalLemmas.{head_represents}
use Rattle.trace_text.proofs.RowsOfText.{text_numbers, text_octets, text_rises}
use Rattle.line_model.specs.channels.Gaps.{GapChannel}
use Rattle.live_report.specs.declared.observer.Observer.{Observer}
use Rattle.live_report.specs.Lives.{IsObserved}
use Rattle.live_report.specs.Observing.{AreItems, Represents as IsObserverOf, last_item}
use Rattle.live_report.specs.Reports.{IsRefusal, IsReported, IsTaken}
use Rattle.trace_text.specs.ObserverAnswers.{IsReportOf}
use Rattle.line_model.proofs.DeviceLemmas.{front_of}
use Rattle.line_model.specs.packets.Says.{item_read, items_of, read_row}
use Rattle.live_report.proofs.ChunkLemmas.{items_sound}
use Rattle.line_model.proofs.Saying.{items_more, read_says}
use Rattle.line_model.proofs.TextRows.{early_head_law, rows_law}

-- a report of the rows of a trace text is the text's
pub reported_at : (text : List ℕ) (i : Interface) (rs : List Item) (answer : Result Report Fault) → IfOk answer (λ r. r ≡ report_of i rs) → fault text ≡ None → head text ≡ Some i → items_of i (rows text) ≡ rs → IfOk answer (IsReportOf text)
reported_at text i rs (Ok r) h sound header same = record { sound = sound; interface = i; header = header; report = h ∙ ap (report_of i) (sym same) }
reported_at text i rs (Err f) h sound header same = tt

pub memory_only : {T : Type 0} → (P : Fault → Type 0) (answer : Result T Fault) → IfErr answer (λ f. f ≡ Memory) → P Memory → IfErr answer P
memory_only P (Ok x) h m = tt
memory_only P (Err f) h m = subst P (sym h) m

-- the rows of a trace text that has no fault
pub whole_trace : (i : Interface) (text : List ℕ) → fault text ≡ None → head text ≡ Some i → AreItems i (items_of i (rows text))
whole_trace i text sound header = items_sound i (rows text) (rows_law text i header) (text_rises text sound) (text_numbers text sound) (text_octets text sound)

-- what the rows of a trace text say, with the row of a last line that no LF ended
pub ended_items : (i : Interface) (text : List ℕ) (has_row : Bool) (row : ReadRow) → (last : Row) × (rows text ≡ early_rows text ++ last_row has_row last) × (has_row ≡ true → row ≡ read_row last) → items_of i (rows text) ≡ items_of i (early_rows text) ++ last_item i has_row row
ended_items i text false row end = ap (items_of i) end.1 ∙ items_more i (early_rows text) []
ended_items i text true row end = ap (items_of i) end.1 ∙ items_more i (early_rows text) (end.0 ∷ []) ∙ ap (λ r. items_of i (early_rows text) ++ r ∷ []) (sym (read_says i end.0) ∙ ap (item_read i) (sym (end.2 refl)))

-- the header that was read is the text's
pub whole_header : (reader : Progress) (text : List ℕ) (i : Interface) → IsReaderOf reader text → reader.interface ≡ Some i → head text ≡ Some i
whole_header reader text i s h = ap head (sym (append-nil text)) ∙ early_head_law text [] i (sym (head_represents reader text s) ∙ h)

one_header : (i j : Interface) → Some i ≡ Some j → i ≡ j
one_header i j h = cc

-- the observer of the rows that were read, or where there is none one before the first row, as the text ends
pub observed_whole : {A C : Type 0} → (I : C → Interface) (N : C → ℕ) (S : C → GapChannel → Type 0) (reader : Progress) (text : List ℕ) (i : Interface) (seen : Option (Observer A C)) (o : Observer A C)
    → IsReaderOf reader text → head text ≡ Some i → IsObserved I N S text reader.interface seen → MatchOption seen (IsObserverOf I N S i [] o) (λ x. o ≡ x)
    → IsObserverOf I N S i (items_of i (early_rows text)) o
observed_whole I N S reader text i None o s header observed h = subst (λ rows. IsObserverOf I N S i (items_of i rows) o) (sym observed) h
observed_whole I N S reader text i (Some x) o s header observed h =
    let same : observed.0 ≡ i = one_header observed.0 i (sym (whole_header reader text observed.0 s observed.1) ∙ header) in
    subst (λ y. IsObserverOf I N S i (items_of i (early_rows text)) y) (sym h) (subst (λ j. IsObserverOf I N S j (items_of j (early_rows text)) x) same observed.2)

-- ---- what was written

pub report_text : (text : List ℕ) (r : Report) → (is : IsReportOf text r) → text_of r ≡ trace_report text
report_text text r is = ap text_of is.report ∙ ap (λ o. elim o as (λ _. List ℕ) [ None ↦ [] | Some j ↦ report j (items_of j (rows text)) ]) (sym is.header)

pub report_sums : (text : List ℕ) (r : Report) → (is : IsReportOf text r) → r.summary ≡ trace_summary text
report_sums text r is = ap (λ x. x.summary) is.report ∙ ap (λ o. elim o as (λ _. Summary) [ None ↦ no_summary | Some j ↦ (report_of j (items_of j (rows text))).summary ]) (sym is.header)

pub reported_by : (text : List ℕ) (r : Report) (before after : Option (List ℕ)) → IsReportOf text r → after ≡ with_more before (text_of r) → IsReported text before after r.summary
reported_by text r before after is taken = record { sound = is.sound; taken = taken ∙ ap (with_more before) (report_text text r is); counted = report_sums text r is }

pub taken_by : (text : List ℕ) (r : Report) (before after : Option (List ℕ)) (f : Fault) → IsReportOf text r → f ≡ Write
    → (front : List ℕ) × (rest : List ℕ) × (text_of r ≡ front ++ rest) × (after ≡ with_more before front) → IsTaken before after (trace_report text) f
taken_by text r before after f is w part =
    rw w (length part.0, part.3 ∙ ap (with_more before) (front_of part.0 part.1 (trace_report text) (sym (report_text text r is) ∙ part.2)))

-- ---- a text that was refused before anything was written

pub refuses : (text : List ℕ) (f : Fault) → IsFaultOf (fault text) f → IsRefusal text f
refuses text Memory h = tt
refuses text (Trace line kind) h = h
refuses text _ h = absurd h

pub untaken : (taken : Option (List ℕ)) (bytes : List ℕ) (f : Fault) → IsTextFault f → IsTaken taken taken bytes f
untaken taken bytes Memory h = refl
untaken taken bytes (Trace line kind) h = refl
untaken taken bytes _ h = absurd h

pub unwritten : (f : Fault) → IsTextFault f → f ≡ Write → ⊥
unwritten f h w = subst IsTextFault w h

-- ---- a result is one of two, and so is what was refused

pub apart : (refused : Option Fault) (f : Fault) → refused ≡ None → refused ≡ Some f → ⊥
apart refused f none some = cc

pub same : (refused : Option Fault) (f g : Fault) → refused ≡ Some f → refused ≡ Some g → f ≡ g
same refused f g first second = cc

pub is_fault : (T : Type 0) (f g : Fault) → ◌≡◌ {A = Result T Fault} (Err f) (Err g) → f ≡ g
is_fault T f g e = cc

pub no_fault : (T : Type 0) (x : T) (f : Fault) → ◌≡◌ {A = Result T Fault} (Ok x) (Err f) → ⊥
no_fault T x f e = cc
