use Rattle.std.proofs.Common.{rules, flat_map}
use Rattle.std.proofs.lemmas.Result.{IfErr-weaker, IfOk-weaker}
use Rattle.line_model.specs.work.Book.{ids_of}
use Rattle.report_merge.specs.Refusal.{IsRefusal}
use Rattle.report_merge.proofs.AnyOrder.{memory_alone}
use Rattle.report_merge.proofs.OfWalk.{report_is}
use Rattle.report_merge.proofs.merging.merge.Goals as goal

pub returns-clause-merged : goal.returns-clause-merged
returns-clause-merged g c = c.finish.ensures.merged _ c.in_ok-gather.ensures

pub returns-clause-report : goal.returns-clause-report
returns-clause-report g c =
    IfOk-weaker c.finish.result _ _ (λ r m i rs w. report_is i rs (flat_map g.T.Reports.reports c.args.reports.items) c.args.line.items c.args.rows c.args.pieces r w m)
    (c.finish.ensures.merged _ c.in_ok-gather.ensures)

pub returns-clause-plan : goal.returns-clause-plan
returns-clause-plan g c = IfErr-weaker c.finish.result _ _ (λ f h i rs w. h) c.finish.ensures.memory

pub returns-in-Some-clause-plan : goal.returns-in-Some-clause-plan
returns-in-Some-clause-plan g c i rs w =
    memory_alone i rs (flat_map g.T.Reports.reports c.args.reports.items) c.args.line.items c.args.rows c.args.pieces _ w (search rules)

pub returns-in_err-judge-clause-plan : goal.returns-in_err-judge-clause-plan
returns-in_err-judge-clause-plan g c =
    let ps = flat_map g.T.Reports.reports c.args.reports.items in
    IfErr-weaker c.from_residual-in_err-judge.result (λ f. IsRefusal f c.args.pieces (ids_of ps)) _
    (λ f h i rs w. memory_alone i rs ps c.args.line.items c.args.rows c.args.pieces f w h) (search rules)
