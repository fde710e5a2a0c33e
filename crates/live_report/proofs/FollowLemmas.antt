-- What a follower wrote.
use Rattle.std.proofs.Common.{◌≡◌, ◌∙◌, sym, ap, ℕ, ◌+◌, ◌≤◌, List, [], ◌++◌, length, drop, Option, None, Result, Ok, Err, OnOk, OnErr, arith, append-nil, append_assoc, length-append}
use Rattle.std.proofs.Math.Seq.{drop-append_seam}
use Rattle.line_model.specs.basics.Device.{with_more}
use Rattle.line_model.specs.text.Text.{begun_line, early, ended_lines, head, rows, size_of}
use Rattle.line_model.specs.traces.Traces.{trace_report}
use Rattle.line_model.specs.basics.Records.{Report}
use Rattle.line_model.specs.observer.Report.{report_of}
use Rattle.line_model.specs.declared.fault.Fault.{Fault}
use Rattle.line_model.specs.declared.fault.Fault.TheVariants.{Memory, Trace}
use Rattle.line_model.specs.declared.finding.Finding.{Finding}
use Rattle.line_model.proofs.TextLemmas.{size_kind-none}
use Rattle.report_merge.specs.Parts.{findings_text, rest_text}
use Rattle.report_merge.proofs.WrittenLemmas.{two_parts}
use Rattle.trace_text.specs.Progress.{Progress, bytes_fed}
use Rattle.trace_text.specs.Represents.{Represents as IsReaderOf, IsTextFault}
use Rattle.trace_text.proofs.FeedLemmas.{size-sound}
use Rattle.live_report.specs.Follows.{HasFindings, HasFirst}
use Rattle.live_report.specs.Found.{HasFound, IsFoundBy, IsFoundUpTo, found, found_text}
use Rattle.live_report.specs.Reports.{IsReportFault}
use Rattle.trace_text.specs.ObserverAnswers.{IsReportOf}
use Rattle.line_model.proofs.TextLemmas.{early_rows-nothing}
use Rattle.live_report.proofs.FoundLemmas.{nothing_found}
use Rattle.live_report.proofs.LawLemmas.{found_in_report, lines_more}
use Rattle.live_report.proofs.ReportLemmas.{report_text}
use Rattle.line_model.proofs.DeviceLemmas.{front_of, with_more-append, with_more-nil}
use Rattle.line_model.specs.packets.Says.{items_of}

-- ---- what a chunk found

found_here : (out known all : List Finding) → HasFound [] out known all → all ≡ known ++ out
found_here out known all h = h.known_has ∙ ap (λ xs. known ++ xs) (sym h.out_has)

found_first_of : (f : Fault) (out known all : List Finding) → IsFoundUpTo f [] out known all → (rest : List Finding) × (all ≡ known ++ (out ++ rest))
found_first_of Memory out known all h = (h.rest, h.known_has ∙ ap (λ xs. known ++ (xs ++ h.rest)) (sym h.out_has))
found_first_of _ out known all h = ([], found_here out known all h ∙ ap (λ xs. known ++ xs) (sym (append-nil out)))

pub found_rest : {T : Type 0} → (r : Result T Fault) (out known all : List Finding) → IsFoundBy r [] out known all → (rest : List Finding) × (all ≡ known ++ (out ++ rest))
found_rest (Ok x) out known all h = ([], found_here out known all h ∙ ap (λ xs. known ++ xs) (sym (append-nil out)))
found_rest (Err f) out known all h = found_first_of f out known all h

pub found_length : (out known all : List Finding) → HasFound [] out known all → length known + length out ≡ length all
found_length out known all h = omega (arith, ap (λ (xs : List Finding). length xs) (found_here out known all h), length-append known out)

pub fed_few : (reader : Progress) (text : List ℕ) → IsReaderOf reader text → bytes_fed reader ≤ 1073741824
fed_few reader text s = omega (arith, s.start, ap (λ (xs : List ℕ). length xs) s.begun, (size_kind-none (size_of (ended_lines text)) 0 (length (begun_line text)) (size-sound text s.sound)).1)

-- ---- what the sink received

-- a sink received all of some bytes, or has failed and received a first part of them
part_of : {T : Type 0} → (w : Result T Fault) (old new : Option (List ℕ)) (bytes : List ℕ) → OnOk w (new ≡ with_more old bytes)
    → OnErr w ((front : List ℕ) × (rest : List ℕ) × (bytes ≡ front ++ rest) × (new ≡ with_more old front)) → (front : List ℕ) × (back : List ℕ) × (bytes ≡ front ++ back) × (new ≡ with_more old front)
part_of (Ok x) old new bytes h e = (bytes, [], sym (append-nil bytes), h)
part_of (Err f) old new bytes h e = e

pub always : {T : Type 0} → (w : Result T Fault) (P : Type 0) → P → OnOk w P
always (Ok x) P h = h
always (Err f) P h = tt

pub on_failure : {T : Type 0} → (w : Result T Fault) (P : Type 0) → P → OnErr w P
on_failure (Ok x) P h = tt
on_failure (Err f) P h = h

-- the sink received a first part of what came
pub written_first : {T U : Type 0} → (r : Result T Fault) (w : Result U Fault) (before old new : Option (List ℕ)) (text all : List ℕ) (written out : List Finding) → written ≡ out → HasFindings before old text → IsFoundBy r [] out (found text) (found all)
    → OnOk w (new ≡ with_more old (findings_text written)) → OnErr w ((front : List ℕ) × (rest : List ℕ) × (findings_text written ≡ front ++ rest) × (new ≡ with_more old front)) → HasFirst before new (found_text all)
written_first r w before old new text all written out same h e ok err =
    let more = found_rest r out (found text) (found all) e in
    let part = part_of w old new (findings_text written) ok err in
    let front = found_text text ++ part.0 in
    let back = part.1 ++ findings_text more.0 in
    let whole : found_text all ≡ front ++ back =
    ap findings_text more.1 ∙ lines_more (found text) (out ++ more.0)
    ∙ ap (λ xs. found_text text ++ xs) (lines_more out more.0 ∙ ap (λ xs. xs ++ findings_text more.0) (ap findings_text (sym same) ∙ part.2) ∙ append_assoc part.0 part.1 (findings_text more.0))
    ∙ sym (append_assoc (found_text text) part.0 back) in (
      length front,
      part.3 ∙ ap (λ o. with_more o part.0) h ∙ with_more-append before (found_text text) part.0 ∙ ap (with_more before) (front_of front back (found_text all) whole),
    )

-- the sink received all that came
pub written_all : {T : Type 0} → (w : Result T Fault) (before old new : Option (List ℕ)) (text all : List ℕ) (written out : List Finding) → written ≡ out → HasFindings before old text → HasFound [] out (found text) (found all)
    → OnOk w (new ≡ with_more old (findings_text written)) → OnOk w (HasFindings before new all)
written_all (Ok x) before old new text all written out same h e ok =
    ok ∙ ap (λ o. with_more o (findings_text written)) h ∙ with_more-append before (found_text text) (findings_text written)
    ∙ ap (with_more before) (ap (λ xs. found_text text ++ findings_text xs) same ∙ sym (lines_more (found text) out) ∙ ap findings_text (sym (found_here out (found text) (found all) e)))
written_all (Err f) before old new text all written out same h e ok = tt

pub text_report : (f : Fault) → IsTextFault f → IsReportFault f
text_report Memory h = tt
text_report (Trace line kind) h = tt
text_report _ h = absurd h

-- ---- the rest of the report

-- the findings that were written come first in a report
pub written_front : (text : List ℕ) (r : Report) → early text ≡ None → IsReportOf text r → (others : List Finding) × (r.findings ≡ found text ++ others)
written_front text r sound is =
    let nil = append-nil text in
    let others = found_in_report text [] is.interface sound (ap head nil ∙ is.header) in
    (others.0, ap (λ (x : Report). x.findings) is.report ∙ ap (λ x. (report_of is.interface (items_of is.interface (rows x))).findings) (sym nil) ∙ others.1)

pub written_within : (text : List ℕ) (r : Report) (findings_written : ℕ) → early text ≡ None → IsReportOf text r → findings_written ≡ length (found text) → findings_written ≤ length r.findings
written_within text r findings_written sound is n =
    let others = written_front text r sound is in
    omega (arith, n, ap (λ (xs : List Finding). length xs) others.1, length-append (found text) others.0)

-- the others come after them
pub written_split : (text : List ℕ) (r : Report) (findings_written : ℕ) → early text ≡ None → IsReportOf text r → findings_written ≡ length (found text) → trace_report text ≡ found_text text ++ (findings_text (drop findings_written r.findings) ++ rest_text r)
written_split text r findings_written sound is n =
    let others = written_front text r sound is in
    let behind : drop findings_written r.findings ≡ others.0 = ap (λ k. drop k r.findings) n ∙ ap (drop (length (found text))) others.1 ∙ drop-append_seam (found text) others.0 in
    sym (report_text text r is) ∙ sym (two_parts r) ∙ ap (λ xs. xs ++ rest_text r) (ap findings_text others.1 ∙ lines_more (found text) others.0)
    ∙ append_assoc (found_text text) (findings_text others.0) (rest_text r) ∙ ap (λ xs. found_text text ++ (findings_text xs ++ rest_text r)) (sym behind)

-- all of them was received after what was written
pub taken_whole : (before old new : Option (List ℕ)) (a b whole : List ℕ) → whole ≡ a ++ b → old ≡ with_more before a → new ≡ with_more old b → new ≡ with_more before whole
taken_whole before old new a b whole w h k = k ∙ ap (λ o. with_more o b) h ∙ with_more-append before a b ∙ ap (with_more before) (sym w)

-- a first part of them
pub taken_first : (before old new : Option (List ℕ)) (a b whole front back : List ℕ) → old ≡ with_more before a → whole ≡ a ++ b → b ≡ front ++ back → new ≡ with_more old front → HasFirst before new whole
taken_first before old new a b whole front back h w split l =
    let all : whole ≡ (a ++ front) ++ back = w ∙ ap (λ xs. a ++ xs) split ∙ sym (append_assoc a front back) in
    (length (a ++ front), l ∙ ap (λ o. with_more o front) h ∙ with_more-append before a front ∙ ap (with_more before) (front_of (a ++ front) back whole all))

-- the second of two parts is received after the first: all of it, or a first part
pub second_whole : {T : Type 0} → (w : Result T Fault) (old mid new : Option (List ℕ)) (a b : List ℕ) → mid ≡ with_more old a → OnOk w (new ≡ with_more mid b) → OnOk w (new ≡ with_more old (a ++ b))
second_whole (Ok x) old mid new a b h k = k ∙ ap (λ o. with_more o b) h ∙ with_more-append old a b
second_whole (Err f) old mid new a b h k = tt

pub second_first : {T : Type 0} → (w : Result T Fault) (old mid new : Option (List ℕ)) (a b : List ℕ) → mid ≡ with_more old a
    → OnErr w ((front : List ℕ) × (rest : List ℕ) × (b ≡ front ++ rest) × (new ≡ with_more mid front)) → OnErr w ((front : List ℕ) × (rest : List ℕ) × (a ++ b ≡ front ++ rest) × (new ≡ with_more old front))
second_first (Ok x) old mid new a b h k = tt
second_first (Err f) old mid new a b h k = (a ++ k.0, k.1, ap (λ xs. a ++ xs) k.2 ∙ sym (append_assoc a k.0 k.1), k.3 ∙ ap (λ o. with_more o k.0) h ∙ with_more-append old a k.0)

-- a sink that received nothing has the findings of no text
pub nothing_written : (taken : Option (List ℕ)) → HasFindings taken taken []
nothing_written taken = sym (with_more-nil taken) ∙ ap (with_more taken) (sym (ap findings_text (nothing_found [] early_rows-nothing)))
