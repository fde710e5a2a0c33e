use Rattle.std.proofs.Common.{◌+◌, ◌++◌, List, ℕ, subst, append_assoc, [], refl, sym}
use Rattle.std.proofs.lemmas.List.{append-nil}
use Rattle.line_model.specs.observer.Report.{call_line}
use Rattle.line_model.specs.basics.Written.{Writes}
use Rattle.report_merge.proofs.WrittenLemmas.{numbered_more}
use Rattle.report_merge.proofs.text.put_calls.Goals as goal

pub loop-index-init : goal.loop-index-init
loop-index-init g c =
    ([], refl, λ before text w. subst (λ l. Writes before (g.W.Sink.taken c.args.sink.now, g.W.Sink.failures c.args.sink.now) c.args.out.now l) (sym (append-nil text)) w)

pub loop-index-preserved : goal.loop-index-preserved
loop-index-preserved g c =
    let t = c.loop-index.invariant in
    let i = c.loop-index.index in
    let x = c.index-calls-index.result in
    let more : List ℕ = call_line (i + 1, x) in (
      t.0 ++ more,
      numbered_more call_line c.args.calls.now i x t.0 c.loop-index-test.true c.index-calls-index.is t.1,
      λ before text w. subst (λ l. Writes before (g.W.Sink.taken c.put_call.new.sink, g.W.Sink.failures c.put_call.new.sink) c.put_call.new.out l) (append_assoc text t.0 more) (c.put_call.ensures before _ (t.2 before text w)),
    )
