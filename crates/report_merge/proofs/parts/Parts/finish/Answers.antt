use Rattle.std.proofs.Common.{◌≡◌, ◌∙◌, ap, subst, sym, List, ◌++◌, sum_by, arith, refl}
use Rattle.std.specs.Prelude.{IfErr}
use Rattle.std.proofs.lemmas.Result.{IfOk-from_err, err_from_is_err_and}
use Rattle.line_model.specs.declared.fault.Fault.TheVariants.{Memory}
use Rattle.std.specs.List.Sorted.{IsPermutation}
use Rattle.std.proofs.lemmas.List.Sorted.{IsPermutation-append, IsPermutation-append_comm, IsPermutation-refl, IsPermutation-trans, sum_by-IsPermutation}
use Rattle.line_model.specs.basics.Records.{CallRecord}
use Rattle.line_model.specs.declared.finding.Finding.{Finding}
use Rattle.line_model.specs.observer.Accounts.{accounts_of}
use Rattle.line_model.specs.observer.Calls.{up_at}
use Rattle.line_model.specs.observer.Peak.{IsPeakOfTimes}
use Rattle.report_merge.specs.Gathered.{AreGathered, piece_findings, all_calls}
use Rattle.report_merge.proofs.GatheredLemmas.{in_order_as, sorted_as}
use Rattle.report_merge.proofs.OfWalk.{report_is}
use Rattle.report_merge.proofs.parts.Parts.finish.Goals as goal

pub accounts_of-requires : goal.accounts_of-requires
accounts_of-requires g c =
    let sorted = sorted_as c.all-2.view_is c.in_ok-sort.ensures in
    let same = sum_by-IsPermutation (λ (call : CallRecord). call.segments) _ _ sorted.same_calls in
    record { few_segments = grind (arith, same, ap (sum_by (λ (call : CallRecord). call.segments)) c.as_slice.ensures.value, c.all.invariant.within, c.all.invariant.few_segments) }

pub returns-clause-merged : goal.returns-clause-merged
returns-clause-merged g c ps all =
    let given = subst (AreGathered ps) (sym c.all.view_is) all in
    let sorted = sorted_as c.all-2.view_is c.in_ok-sort.ensures in
    let appended = subst (λ (l : List Finding). IsPermutation l c.all-2.inside.findings.items) c.in_ok-append.ensures.items sorted.same_findings in
    let many_findings = c.len.ensures ∙ c.all-2.inside.findings.ok.0 in
    let many_calls = c.len-2.ensures ∙ c.all-2.inside.calls.ok.0 in
    record {
      same_findings = IsPermutation-trans (c.args.line.items ++ piece_findings ps) (piece_findings ps ++ c.args.line.items) c.all-2.inside.findings.items
          (IsPermutation-append_comm c.args.line.items (piece_findings ps))
          (IsPermutation-trans (piece_findings ps ++ c.args.line.items) (c.all.inside.findings.items ++ c.args.line.items) c.all-2.inside.findings.items
          (IsPermutation-append (piece_findings ps) c.all.inside.findings.items c.args.line.items c.args.line.items given.same_findings (IsPermutation-refl c.args.line.items)) appended);
      findings_sorted = sorted.findings_sorted;
      same_calls = IsPermutation-trans (all_calls ps) c.all.inside.calls.items c.all-2.inside.calls.items given.same_calls sorted.same_calls;
      calls_sorted = sorted.calls_sorted;
      accounts = c.in_ok-accounts.ensures.accounts ∙ ap accounts_of c.as_slice.ensures.value;
      peak = subst (λ (l : List CallRecord). IsPeakOfTimes (up_at l) c.in_ok-peak.peak.count c.in_ok-peak.peak.packet) c.as_slice-2.ensures.value c.in_ok-peak.ensures.peak;
      gaps = refl;
      summary = λ j. record { packets = c.from.ensures j; findings = many_findings j; calls = many_calls j; octets = (sorted.same_octets ∙ given.same_octets) j; segments = (sorted.same_segments ∙ given.same_segments) j };
    }

pub returns-clause-report : goal.returns-clause-report
returns-clause-report g c i rs ps is w =
    report_is i rs ps c.args.line.items c.args.rows _ _ w
    (returns-clause-merged g c ps (in_order_as ps _ is))

pub returns-in_err-append-clause-merged : goal.returns-in_err-append-clause-merged
returns-in_err-append-clause-merged g c ps is = IfOk-from_err _ _ c.from_residual.ensures.0

pub returns-in_err-append-clause-report : goal.returns-in_err-append-clause-report
returns-in_err-append-clause-report g c i rs ps is w = IfOk-from_err _ _ c.from_residual.ensures.0

pub returns-in_err-append-clause-memory : goal.returns-in_err-append-clause-memory
returns-in_err-append-clause-memory g c =
    let p = err_from_is_err_and c.from_residual.result c.from_residual.ensures.1 in
    subst (λ r. IfErr r (λ f. f ≡ Memory)) (sym p.1) p.2

pub returns-in_err-clone-clause-merged : goal.returns-in_err-clone-clause-merged
returns-in_err-clone-clause-merged g c ps is = IfOk-from_err _ _ c.from_residual-in_err-clone.ensures.0

pub returns-in_err-clone-clause-report : goal.returns-in_err-clone-clause-report
returns-in_err-clone-clause-report g c i rs ps is w = IfOk-from_err _ _ c.from_residual-in_err-clone.ensures.0

pub returns-in_err-clone-clause-memory : goal.returns-in_err-clone-clause-memory
returns-in_err-clone-clause-memory g c =
    let p = err_from_is_err_and c.from_residual-in_err-clone.result c.from_residual-in_err-clone.ensures.1 in
    subst (λ r. IfErr r (λ f. f ≡ Memory)) (sym p.1) p.2

pub returns-in_err-sort-clause-merged : goal.returns-in_err-sort-clause-merged
returns-in_err-sort-clause-merged g c ps is = IfOk-from_err _ _ c.from_residual-in_err-sort.ensures.0

pub returns-in_err-sort-clause-report : goal.returns-in_err-sort-clause-report
returns-in_err-sort-clause-report g c i rs ps is w = IfOk-from_err _ _ c.from_residual-in_err-sort.ensures.0

pub returns-in_err-sort-clause-memory : goal.returns-in_err-sort-clause-memory
returns-in_err-sort-clause-memory g c =
    let p = err_from_is_err_and c.from_residual-in_err-sort.result c.from_residual-in_err-sort.ensures.1 in
    subst (λ r. IfErr r (λ f. f ≡ Memory)) (sym p.1) p.2

pub returns-in_err-clone-2-clause-merged : goal.returns-in_err-clone-2-clause-merged
returns-in_err-clone-2-clause-merged g c ps is = IfOk-from_err _ _ c.from_residual-in_err-clone-2.ensures.0

pub returns-in_err-clone-2-clause-report : goal.returns-in_err-clone-2-clause-report
returns-in_err-clone-2-clause-report g c i rs ps is w = IfOk-from_err _ _ c.from_residual-in_err-clone-2.ensures.0

pub returns-in_err-clone-2-clause-memory : goal.returns-in_err-clone-2-clause-memory
returns-in_err-clone-2-clause-memory g c =
    let p = err_from_is_err_and c.from_residual-in_err-clone-2.result c.from_residual-in_err-clone-2.ensures.1 in
    subst (λ r. IfErr r (λ f. f ≡ Memory)) (sym p.1) p.2

pub returns-in_err-accounts-clause-merged : goal.returns-in_err-accounts-clause-merged
returns-in_err-accounts-clause-merged g c ps is = IfOk-from_err _ _ c.from_residual-in_err-accounts.ensures.0

pub returns-in_err-accounts-clause-report : goal.returns-in_err-accounts-clause-report
returns-in_err-accounts-clause-report g c i rs ps is w = IfOk-from_err _ _ c.from_residual-in_err-accounts.ensures.0

pub returns-in_err-accounts-clause-memory : goal.returns-in_err-accounts-clause-memory
returns-in_err-accounts-clause-memory g c =
    let p = err_from_is_err_and c.from_residual-in_err-accounts.result c.from_residual-in_err-accounts.ensures.1 in
    subst (λ r. IfErr r (λ f. f ≡ Memory)) (sym p.1) (p.2 ∙ c.in_err-accounts.ensures.memory)

pub returns-in_err-peak-clause-merged : goal.returns-in_err-peak-clause-merged
returns-in_err-peak-clause-merged g c ps is = IfOk-from_err _ _ c.from_residual-in_err-peak.ensures.0

pub returns-in_err-peak-clause-report : goal.returns-in_err-peak-clause-report
returns-in_err-peak-clause-report g c i rs ps is w = IfOk-from_err _ _ c.from_residual-in_err-peak.ensures.0

pub returns-in_err-peak-clause-memory : goal.returns-in_err-peak-clause-memory
returns-in_err-peak-clause-memory g c =
    let p = err_from_is_err_and c.from_residual-in_err-peak.result c.from_residual-in_err-peak.ensures.1 in
    subst (λ r. IfErr r (λ f. f ≡ Memory)) (sym p.1) (p.2 ∙ c.in_err-peak.ensures.memory)
