use Rattle.std.proofs.Common.{◌∙◌, ap, length}
use Rattle.std.specs.Prelude.{codes}
use Rattle.line_model.specs.basics.Records.{Report}
use Rattle.line_model.specs.declared.state.Side.TheVariants.{T, N}
use Rattle.descriptions.specs.FindingLines.{count_of, counted, found_words, sides_words}
use Rattle.descriptions.proofs.ValueLemmas.{these_same, these_then}
use Rattle.descriptions.proofs.finding_sums.put_sums.Goals as goal

pub returns : goal.returns
returns g c =
    let found = c.as_slice-findings.ensures.value ∙ ap (λ (r : Report). r.findings) c.report.view_is in
    these_then (these_same (ap (λ fs. found_words (length fs)) found) c.put_found.ensures)
    (these_then c.raw.ensures (these_then (these_same (ap (λ (r : Report). counted r.summary.packets (codes "packet")) c.report.view_is) c.put_counted.ensures)
    (these_then c.raw-2.ensures (these_then (these_same (ap (λ (r : Report). counted r.summary.calls (codes "call")) c.report.view_is) c.put_counted-2.ensures)
    (these_then (these_same (λ t. sides_words (length (found t)) ((c.count_of.ensures.count ∙ ap (count_of T) found) t) ((c.count_of-2.ensures.count ∙ ap (count_of N) found) t)) c.put_sides.ensures) c.raw-3.ensures)))))
