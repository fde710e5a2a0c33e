use Rattle.std.proofs.Common.{◌∙◌, ℕ, List, [], ◌∷◌, ◌++◌, ap, sym, subst, rules}
use Rattle.line_model.specs.basics.Records.{PieceReport}
use Rattle.report_merge.specs.Gathered.{Gathered, IsBundle, IsSmall, joined}
use Rattle.report_merge.proofs.GatheredLemmas.{bundle_more}
use Rattle.report_merge.proofs.reports.BundleReport.with.Goals as goal

pub invariant_of-result : goal.invariant_of-result
invariant_of-result g c =
    let small : IsSmall c.args.report = search rules in
    let ids = c.in_ok-push.ensures.items ∙ ap (λ (r : PieceReport). c.self.inside.ids.items ++ r.id ∷ []) c.report.view_is in
    let parts = c.in_ok-append.ensures ∙ ap (joined c.self.inside.parts) c.of.ensures in
    subst (λ (y : List PieceReport × List ℕ × Gathered). IsBundle y.0 y.1 y.2) (λ i. (sym c.and-reports.ensures i, sym ids i, sym parts i))
    (bundle_more c.self.inside.reports.items c.self.inside.ids.items c.self.inside.parts c.args.report c.self.invariant small)
