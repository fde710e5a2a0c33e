use Rattle.std.proofs.Common.{◌∙◌, List, [], sym, subst, flat_map}
use Rattle.std.proofs.lemmas.List.{flat_map_more, map-id}
use Rattle.std.proofs.lemmas.Iterator.Adapters.{YieldsList-from_vec}
use Rattle.std.proofs.lemmas.Iterator.Consumers.{YieldsList-end}
use Rattle.line_model.specs.basics.Records.{PieceReport}
use Rattle.report_merge.specs.Gathered.{AreGathered, Gathered}
use Rattle.report_merge.proofs.GatheredLemmas.{both}
use Rattle.report_merge.proofs.merging.gather.Goals as goal

pub loop-some-preserved : goal.loop-some-preserved
loop-some-preserved g c =
    let before = c.loop-some.yielded in
    subst (λ (x : List PieceReport × Gathered). AreGathered x.0 x.1) (λ j. (flat_map_more g.T.Reports.reports [] before c.in-Some.some j, sym c.in_ok-append.ensures j))
    (both _ _ _ _ c.loop-some.invariant c.into_parts.ensures)

pub returns : goal.returns
returns g c =
    let given = c.into_iter-some-iterator.ensures.into_iter_gives in
    let reports = c.args.reports in
    let t = YieldsList-end (YieldsList-from_vec {s = c.into_iter-some-iterator.result} reports.items given.0 (given.1 ∙ reports.ok.0)) c.loop-some.yielded c.loop-some.some-iterator c.loop-some.yielded_by c.next.result c.next.new.self c.in-None.is c.next.ensures.steps in
    subst (λ l. AreGathered (flat_map g.T.Reports.reports l) c.loop-some.parts) (sym (map-id c.loop-some.yielded) ∙ t.0) c.loop-some.invariant
