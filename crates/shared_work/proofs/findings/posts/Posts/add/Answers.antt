use Rattle.std.proofs.Common.{List, length, [], ◌∷◌, ◌++◌, sym, ap, ◌∙◌, subst, arith, flat_map}
use Rattle.std.proofs.lemmas.List.{flat_map_more}
use Rattle.line_model.specs.basics.Records.{PieceReport}
use Rattle.line_model.specs.declared.totals.Totals.{Totals}
use Rattle.shared_work.specs.findings.Sums.{IsBook, IsNoteRefusal, IsPostRefusal, plus}
use Rattle.shared_work.proofs.Adding.{adds_noted, few_posts, fits, refused, same_book, vouches_more, vouches_still}
use Rattle.shared_work.proofs.findings.posts.Posts.add.Goals as goal

pub invariant_of-self : goal.invariant_of-self
invariant_of-self g c =
    let same = ap (flat_map g.T.Reports.reports) c.in-Err.ensures.same in
    (same_book g.P.Plan.pieces _ _ _ _ _ c.self.invariant.0 same c.in-Err.ensures.kept, vouches_still _ _ _ _ c.self.invariant.1 c.learn.ensures.kept same)

pub returns-in-Err-clause-faults : goal.returns-in-Err-clause-faults
returns-in-Err-clause-faults g c =
    let ps = g.T.Reports.reports c.args.post in
    subst (λ (rs : List PieceReport). IsPostRefusal c.in-Err.fault rs ps) c.self.view_is
    (refused _ c.self.inside.ids ps c.in-Err.fault c.self.invariant.0.known (subst (IsNoteRefusal c.in-Err.fault c.self.inside.ids) c.ids.ensures.ids c.in-Err.ensures.refused))

pub add-requires-clause-posts : goal.add-requires-clause-posts
add-requires-clause-posts g c =
    let more = adds_noted g.P.Plan.pieces _ _ _ _ _ _ c.self.invariant.0 c.ids.ensures.small c.requires.values c.ids.ensures.ids c.make_room.ensures.few c.in_default.ensures.noted in
    omega (arith, few_posts _ _ _ _ more, ap (λ t. t.posts) more.totals, ap (λ t. t.posts) c.totals.ensures)

pub add-requires-clause-findings : goal.add-requires-clause-findings
add-requires-clause-findings g c =
    let more = adds_noted g.P.Plan.pieces _ _ _ _ _ _ c.self.invariant.0 c.ids.ensures.small c.requires.values c.ids.ensures.ids c.make_room.ensures.few c.in_default.ensures.noted in
    omega (arith, fits _ _ _ _ (λ (r : PieceReport). length r.findings) more (λ r s. s.findings), ap (λ t. t.findings) more.totals, ap (λ t. t.findings) c.totals.ensures)

pub add-requires-clause-octets : goal.add-requires-clause-octets
add-requires-clause-octets g c =
    let more = adds_noted g.P.Plan.pieces _ _ _ _ _ _ c.self.invariant.0 c.ids.ensures.small c.requires.values c.ids.ensures.ids c.make_room.ensures.few c.in_default.ensures.noted in
    omega (arith, fits _ _ _ _ (λ (r : PieceReport). r.octets) more (λ r s. s.octets), ap (λ t. t.octets) more.totals, ap (λ t. t.octets) c.totals.ensures)

pub add-requires-clause-segments : goal.add-requires-clause-segments
add-requires-clause-segments g c =
    let more = adds_noted g.P.Plan.pieces _ _ _ _ _ _ c.self.invariant.0 c.ids.ensures.small c.requires.values c.ids.ensures.ids c.make_room.ensures.few c.in_default.ensures.noted in
    omega (arith, fits _ _ _ _ (λ (r : PieceReport). r.segments) more (λ r s. s.segments), ap (λ t. t.segments) more.totals, ap (λ t. t.segments) c.totals.ensures)

pub invariant_of-self-2 : goal.invariant_of-self-2
invariant_of-self-2 g c =
    let reports = g.T.Reports.reports in
    let more = adds_noted g.P.Plan.pieces _ _ _ _ _ _ c.self.invariant.0 c.ids.ensures.small c.requires.values c.ids.ensures.ids c.make_room.ensures.few c.in_default.ensures.noted in
    let pushed = c.push_reserved.ensures.items ∙ ap (λ l. l ++ c.args.post ∷ []) c.in_default.ensures.same in
    let e = flat_map_more reports [] c.self.inside.posts.items c.args.post ∙ ap (flat_map reports) (sym pushed) in (
      subst (λ (y : List PieceReport × Totals). IsBook g.P.Plan.pieces y.0 c.make_room.new.known y.1)
          (λ i. (e i, (ap (plus c.self.inside.sums) (sym {A = Totals} c.totals.ensures) ∙ sym {A = Totals} c.add.ensures.sums) i))
          more,
      vouches_more _ _ _ _ _ _ c.self.invariant.1 c.learn.ensures.kept c.requires.vouched c.learn.ensures.learned (sym e),
    )
