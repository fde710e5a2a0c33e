use Rattle.std.proofs.Common.{[], ap, arith, length}
use Rattle.std.proofs.lemmas.List.Elements.{All-push}
use Rattle.line_model.specs.basics.Records.{PieceReport}
use Rattle.report_merge.specs.Gathered.{IsSmall}
use Rattle.report_merge.proofs.reports.PieceReportReports.ids.Goals as goal

pub returns-clause-small : goal.returns-clause-small
returns-clause-small g c =
    let is = c.self.view_is in
    let i = c.self.invariant in
    let small : IsSmall c.args.self.now = record {
      findings = omega (arith, i.few_findings, ap (λ (r : PieceReport). length r.findings) is);
      octets = omega (arith, i.few_octets, ap (λ (r : PieceReport). r.octets) is);
      segments = omega (arith, i.few_segments, ap (λ (r : PieceReport). r.segments) is);
    } in
    All-push IsSmall [] c.args.self.now (λ k d lt. absurd (omega arith)) small
