use Rattle.std.proofs.lemmas.Grind.{common_steps}
use Rattle.std.proofs.Common.{◌++◌, List, ℕ, subst, append_assoc, arith}
use Rattle.header_trials.specs.TriedLines.{tried_line}
use Rattle.line_model.specs.basics.Written.{Writes}
use Rattle.report_merge.proofs.WrittenLemmas.{lines_more}
use Rattle.header_trials.proofs.tried_lines.put_lines.Goals as goal

pub loop-line-preserved : goal.loop-line-preserved
loop-line-preserved g c =
    let t = c.loop-line.invariant in
    let i = c.loop-line.line-index in
    let x = c.line-item.result in
    let more : List ℕ = (tried_line x) in (
      t.0 ++ more,
      lines_more tried_line c.args.tried.now i x t.0 c.loop-line-test.true c.line-item.is t.1,
      λ before text w. subst (λ l. Writes before (g.W.Sink.taken c.put_line.new.sink, g.W.Sink.failures c.put_line.new.sink) c.put_line.new.out l) (append_assoc text t.0 more) (c.put_line.ensures before _ (t.2 before text w)),
    )

pub returns : goal.returns
returns g c = grind (arith, common_steps) steps 2000000
