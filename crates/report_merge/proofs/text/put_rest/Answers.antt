use Rattle.std.proofs.Common.{◌≡◌, ◌++◌, ◌∙◌, List, ℕ, subst, ap, append_assoc}
use Rattle.std.specs.List.{flat_map, enumerate_from}
use Rattle.line_model.specs.basics.Records.{CallRecord}
use Rattle.line_model.specs.declared.call.Account.{Account}
use Rattle.line_model.specs.basics.Records.{Report}
use Rattle.line_model.specs.observer.Report.{call_line, setting_lines, account_line, gap_lines, peak_line, summary_line}
use Rattle.report_merge.specs.Parts.{rest_text}
use Rattle.line_model.specs.basics.Written.{Writes}
use Rattle.report_merge.proofs.text.put_rest.Goals as goal

joined : (t b c d p g z : List ℕ) → (((((t ++ b) ++ c) ++ d) ++ p) ++ g) ++ z ≡ t ++ (((((b ++ c) ++ d) ++ p) ++ g) ++ z)
joined t b c d p g z = simp append_assoc

pub returns : goal.returns
returns g c = λ before text w.
    let v = c.report.inside in
    let r : Report = record { findings = v.findings.items; calls = v.calls.items; accounts = v.accounts.items; peak = v.peak; gaps = v.gaps; summary = v.summary } in
    let k : List CallRecord → List ℕ = λ xs. flat_map call_line (enumerate_from 1 xs) in
    let s : List CallRecord → List ℕ = λ xs. flat_map setting_lines (enumerate_from 1 xs) in
    let a : List Account → List ℕ = λ xs. flat_map account_line xs in
    let p : List ℕ = peak_line r.peak in
    let gs : List ℕ = gap_lines r.gaps in
    let z : List ℕ = summary_line r.summary in
    let x1 = c.as_slice.result.now in
    let x2 = c.as_slice-2.result.now in
    let x3 = c.as_slice-3.result.now in
    let e = joined text (k x1) (s x2) (a x3) p gs z
    ∙ ap (λ l. text ++ (((((l ++ s x2) ++ a x3) ++ p) ++ gs) ++ z)) (ap k c.as_slice.ensures.value)
    ∙ ap (λ l. text ++ (((((k r.calls ++ l) ++ a x3) ++ p) ++ gs) ++ z)) (ap s c.as_slice-2.ensures.value)
    ∙ ap (λ l. text ++ (((((k r.calls ++ s r.calls) ++ l) ++ p) ++ gs) ++ z)) (ap a c.as_slice-3.ensures.value)
    ∙ ap (λ x. text ++ rest_text x) c.report.view_is in
    subst (λ l. Writes before (g.W.Sink.taken c.put_summary.new.sink, g.W.Sink.failures c.put_summary.new.sink) c.put_summary.new.out l) e
    (c.put_summary.ensures before _ (c.put_gaps.ensures before _ (c.put_peak.ensures before _ (c.put_accounts.ensures before _ (c.put_all_settings.ensures before _ (c.put_calls.ensures before text w))))))
