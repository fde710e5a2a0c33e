use Rattle.std.proofs.Common.{◌∙◌, ◌++◌, ◌∷◌, [], subst, sym, ◌≡◌, ◌≤◌}
use Rattle.line_model.specs.observer.Calls.{all_lengths}
use Rattle.line_model.specs.observer.Machine.{routed}
use Rattle.line_model.specs.observer.Observer.{x25}
use Rattle.line_model.specs.observer.Report.{report_of}
use Rattle.restart_epochs.specs.Cutting.{observer}
use Rattle.descriptions.specs.CallSums.{segments_from}
use Rattle.descriptions.specs.RowObjects.{events_at}
use Rattle.descriptions.proofs.CallSumLemmas.{found_count, one_found}
use Rattle.descriptions.proofs.call_sums.Addend.of.Goals as goal

pub returns : goal.returns
returns c i earlier r facts =
    let lengths = all_lengths (events_at i (routed (x25 i) (observer i earlier).level r) (observer i earlier) r) in
    record {
      call = c.of_row.ensures ∙ facts.call;
      findings = c.finding_count.ensures ∙ found_count (report_of i earlier).findings (report_of i (earlier ++ r ∷ [])).findings c.args.facts.now.last.now.finding facts.finding;
      segments = subst (λ side. c.segments_from.result ≡ segments_from side lengths) facts.side (c.segments_from.ensures.segments lengths facts.fate);
      few_findings = subst (λ n. n ≤ 1) (sym c.finding_count.ensures) (one_found c.args.facts.now.last.now.finding);
      few_segments = c.segments_from.ensures.small lengths facts.fate;
    }
