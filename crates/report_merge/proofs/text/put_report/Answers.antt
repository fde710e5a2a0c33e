use Rattle.std.proofs.Common.{◌++◌, ◌∙◌, subst, ap, append_assoc}
use Rattle.line_model.specs.basics.Records.{Report}
use Rattle.report_merge.specs.Parts.{findings_text, rest_text}
use Rattle.line_model.specs.basics.Written.{Writes}
use Rattle.report_merge.proofs.WrittenLemmas.{two_parts}
use Rattle.report_merge.proofs.text.put_report.Goals as goal

pub returns : goal.returns
returns g c = λ before text w.
    let r : Report = c.args.report.now in
    let found = ap findings_text (c.as_slice.ensures.value ∙ ap (λ (x : Report). x.findings) c.report.view_is) in
    let e = append_assoc text (findings_text c.as_slice.result.now) (rest_text r)
    ∙ ap (λ l. text ++ (l ++ rest_text r)) found
    ∙ ap (λ l. text ++ l) (two_parts r) in
    subst (λ l. Writes before (g.W.Sink.taken c.put_rest.new.sink, g.W.Sink.failures c.put_rest.new.sink) c.put_rest.new.out l) e
    (c.put_rest.ensures before _ (c.put_findings.ensures before text w))
