use Rattle.std.proofs.Common.{◌∙◌, sym, ap}
use Rattle.report_merge.specs.Refusal.{unknown_id}
use Rattle.report_merge.proofs.UnknownIds.{split_first, at_none, at_some}
use Rattle.report_merge.proofs.merging.unknown_id_of.Goals as goal

pub returns-in-Some : goal.returns-in-Some
returns-in-Some g c =
    let own = sym (c.first_unknown_id.ensures ∙ ap (unknown_id c.args.pieces) c.ids.ensures.ids) ∙ c.in-Some.is in
    sym (c.loop-some.invariant ∙ (split_first g.T.Reports.reports c.args.pieces c.args.reports.now c.loop-some.some-index c.some-item.result c.loop-some-test.true c.some-item.is ∙ at_some _ _ _ own))

pub loop-some-preserved : goal.loop-some-preserved
loop-some-preserved g c =
    let own = sym (c.first_unknown_id.ensures ∙ ap (unknown_id c.args.pieces) c.ids.ensures.ids) ∙ c.in_default.is in
    c.loop-some.invariant ∙ (split_first g.T.Reports.reports c.args.pieces c.args.reports.now c.loop-some.some-index c.some-item.result c.loop-some-test.true c.some-item.is ∙ at_none _ _ own)
