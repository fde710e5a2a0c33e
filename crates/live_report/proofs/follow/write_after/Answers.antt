use Rattle.std.proofs.Common.{◌∙◌, ◌≤◌, ◌++◌, List, sym, ap, subst, length, drop, append_assoc}
use Rattle.line_model.specs.basics.Device.{with_more}
use Rattle.line_model.specs.basics.Records.{Report}
use Rattle.line_model.specs.declared.finding.Finding.{Finding}
use Rattle.report_merge.specs.Parts.{findings_text, rest_text}
use Rattle.live_report.proofs.FollowLemmas.{on_failure, second_first, second_whole}
use Rattle.live_report.proofs.follow.write_after.Goals as goal

pub split_at-requires : goal.split_at-requires
split_at-requires g c =
    subst (λ (xs : List Finding). c.args.findings_written ≤ length xs) (sym (c.as_slice.ensures.value ∙ ap (λ (r : Report). r.findings) c.report.view_is)) c.requires

pub returns-clause-ok : goal.returns-clause-ok
returns-clause-ok g c =
    let written = ap findings_text (c.split_at.ensures.back ∙ ap (drop c.args.findings_written) (c.as_slice.ensures.value ∙ ap (λ (r : Report). r.findings) c.report.view_is)) in
    second_whole c.write_rest.result (g.K.Sink.taken c.args.sink.now) (g.K.Sink.taken c.write_findings.new.sink) (g.K.Sink.taken c.write_rest.new.sink) (findings_text (drop c.args.findings_written c.args.report.now.findings)) (rest_text c.args.report.now)
    (c.in_ok-write_findings.ensures.ok ∙ ap (with_more (g.K.Sink.taken c.args.sink.now)) written) c.write_rest.ensures.ok

pub returns-clause-part : goal.returns-clause-part
returns-clause-part g c =
    let written = ap findings_text (c.split_at.ensures.back ∙ ap (drop c.args.findings_written) (c.as_slice.ensures.value ∙ ap (λ (r : Report). r.findings) c.report.view_is)) in
    second_first c.write_rest.result (g.K.Sink.taken c.args.sink.now) (g.K.Sink.taken c.write_findings.new.sink) (g.K.Sink.taken c.write_rest.new.sink) (findings_text (drop c.args.findings_written c.args.report.now.findings)) (rest_text c.args.report.now)
    (c.in_ok-write_findings.ensures.ok ∙ ap (with_more (g.K.Sink.taken c.args.sink.now)) written) c.write_rest.ensures.part

pub returns-in_err-write_findings-clause-part : goal.returns-in_err-write_findings-clause-part
returns-in_err-write_findings-clause-part g c =
    let written = ap findings_text (c.split_at.ensures.back ∙ ap (drop c.args.findings_written) (c.as_slice.ensures.value ∙ ap (λ (r : Report). r.findings) c.report.view_is)) in
    let part = c.in_err-write_findings.ensures.part in
    let rest = rest_text c.args.report.now in
    on_failure c.from_residual.result _ (part.0, part.1 ++ rest, ap (λ xs. xs ++ rest) (sym written ∙ part.2) ∙ append_assoc part.0 part.1 rest, part.3)
