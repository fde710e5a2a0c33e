use Rattle.std.proofs.lemmas.Grind.{common_steps}
use Rattle.std.proofs.Common.{arith}
use Rattle.line_model.specs.observer.Report.{finding_line}
use Rattle.line_model.specs.basics.Written.{Writes}
use Rattle.report_merge.proofs.WrittenLemmas.{turn}
use Rattle.report_merge.proofs.text.put_findings.Goals as goal

pub loop-finding-preserved : goal.loop-finding-preserved
loop-finding-preserved g c =
    turn finding_line c.args.findings.now c.loop-finding.finding-index _
    (λ b text. Writes b (g.W.Sink.taken c.args.sink.now, g.W.Sink.failures c.args.sink.now) c.args.out.now text)
    (λ b text. Writes b (g.W.Sink.taken c.loop-finding.sink, g.W.Sink.failures c.loop-finding.sink) c.loop-finding.out text)
    (λ b text. Writes b (g.W.Sink.taken c.put_finding.new.sink, g.W.Sink.failures c.put_finding.new.sink) c.put_finding.new.out text)
    c.loop-finding-test.true c.loop-finding.invariant c.put_finding.ensures

pub returns : goal.returns
returns g c = grind (arith, common_steps) steps 2000000
