use Rattle.std.proofs.Common.{◌≡◌, List, ◌++◌, length, ap, sym, subst, ◌∙◌}
use Rattle.std.specs.Prelude.{All}
use Rattle.line_model.specs.basics.Records.{Piece}
use Rattle.shared_work.specs.declared.queue.rule.QueueNotes.{QueueNotes}
use Rattle.shared_work.specs.queue.Known.{IsFed}
use Rattle.shared_work.proofs.Bundles.{bundles_learn, bundles_confirm}
use Rattle.shared_work.proofs.queue.work.Work.confirm.Goals as goal

pub absorb-requires-clause-rule : goal.absorb-requires-clause-rule
absorb-requires-clause-rule g c = bundles_learn g.P.Plan.pieces _ _ _ _ c.witness.invariant.1

pub learn_as-requires-clause-rule : goal.learn_as-requires-clause-rule
learn_as-requires-clause-rule g c = bundles_confirm g.P.Plan.pieces _ _ (ap (λ v. v.record_of.feeds) c.absorb.ensures.rule ∙ c.pass.invariant.1)

pub returns-clause-fed : goal.returns-clause-fed
returns-clause-fed g c =
    let learned = c.absorb.ensures.rule in
    let known = subst (λ (v : QueueNotes). All (IsFed v.fed) v.known) learned c.learn_as.ensures.rule.1.0 in
    let none = c.pass.invariant.2 in
    let own = subst (λ l. All (IsFed c.pass.inside.pass.me.0.client.fed) (l ++ c.witness.inside.pass.me.0.client.known)) none known in
    subst (λ (l : List Piece × List Piece). All (IsFed l.0) l.1) (λ i. (ap (λ v. v.pieces) c.pass.view_is i, ap (λ v. v.pieces) c.witness.view_is i)) own

pub returns-clause-number : goal.returns-clause-number
returns-clause-number g c =
    let number = subst (λ (v : QueueNotes). length v.fed ≡ v.record_of.fed) c.absorb.ensures.rule c.learn_as.ensures.rule.1.1 in
    sym (ap (λ v. length v.pieces) c.pass.view_is) ∙ (number ∙ ap (λ v. v.record_of.fed) c.pass.view_is)
