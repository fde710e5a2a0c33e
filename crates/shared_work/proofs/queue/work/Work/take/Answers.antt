use Rattle.std.proofs.Common.{◌≡◌, ℕ, ◌∷◌, ◌++◌, ◌∙◌, [], ap, subst, None, Some, true, append-nil, rules}
use Rattle.crossbeam_queue.specs.Fifo.{Held}
use Rattle.line_model.specs.work.Work.{numbers_of}
use Rattle.line_model.specs.work.Work.WorkEntry.{finish}
use Rattle.shared_work.specs.queue.Entries.{jobs}
use Rattle.shared_work.specs.queue.Rule.{worker, IsDrained, TookEntry}
use Rattle.shared_work.proofs.Moves.{at_an_end}
use Rattle.shared_work.proofs.Bundles.{bundle_popped, took_end, took_jobs, pop_still, pop_empty}
use Rattle.shared_work.proofs.queue.work.Work.take.Goals.{in-Some-Some, in-Some-None, in-None}
use Rattle.shared_work.proofs.queue.work.Work.take.Goals as goal

pub pop_as-requires-clause-rule : goal.pop_as-requires-clause-rule
pop_as-requires-clause-rule g c = (bundle_popped g.P.Plan.pieces _ _ c.pass.invariant.1, λ items views h at. (views, _, h, at))

pub invariant_of-pass : goal.invariant_of-pass
invariant_of-pass g c = (search rules, pop_still g.P.Plan.pieces c.pop_as.result _ _ _ c.pass.invariant.1 c.pop_as.ensures.rule)

pub returns-clause-taken : goal.returns-clause-taken
returns-clause-taken g c =
    let known = ap (λ k. k.record_of) c.pass.view_is in
    let before = c.pass.inside.pass.me.0.client in
    let after = c.pop_as.new.pass.me.0.client in
    let own = c.args.pass.now.record_of in
    elim c.match-pop_as.branch [
      | in-Some-Some w ↦
          let bundle = w.in-Some-Some.bundle in
          let popped : c.pop_as.result ≡ Some (jobs bundle) = search rules in
          let took = took_jobs g.P.Plan.pieces bundle before after c.pass.invariant.1 (rw popped at c.pop_as.ensures.rule) in
          rw w.result-is (took.planned, took.taken ∙ (ap (λ r. worker (r.taken ++ numbers_of bundle) r.finished r.fed) known ∙ ap (λ b. worker (own.taken ++ numbers_of bundle) b own.fed) c.requires.unfinished))
      | in-Some-None w ↦
          let popped : c.pop_as.result ≡ Some (finish ∷ []) = search rules in
          let took = took_end g.P.Plan.pieces before after (rw popped at c.pop_as.ensures.rule) in
          rw w.result-is (took.0.0 ∙ ap (λ r. worker r.taken true after.record_of.fed) known)
      | in-None w ↦
          let popped : c.pop_as.result ≡ None = search rules in
          let rule = rw popped at c.pop_as.ensures.rule in
          rw w.result-is (ap (λ v. v.record_of) rule.0 ∙ known)
    ]

pub returns-clause-pieces : goal.returns-clause-pieces
returns-clause-pieces g c =
    let known = ap (λ k. k.pieces) c.pass.view_is in
    let before = c.pass.inside.pass.me.0.client in
    let after = c.pop_as.new.pass.me.0.client in
    elim c.match-pop_as.branch [
      | in-Some-Some w ↦
          let bundle = w.in-Some-Some.bundle in
          let popped : c.pop_as.result ≡ Some (jobs bundle) = search rules in
          let took = took_jobs g.P.Plan.pieces bundle before after c.pass.invariant.1 (rw popped at c.pop_as.ensures.rule) in
          rw w.result-is (took.known ∙ ap (λ l. l ++ bundle) known)
      | in-Some-None w ↦
          let popped : c.pop_as.result ≡ Some (finish ∷ []) = search rules in
          let took = took_end g.P.Plan.pieces before after (rw popped at c.pop_as.ensures.rule) in
          rw w.result-is (took.1 ∙ (append-nil before.known ∙ known))
      | in-None w ↦
          let popped : c.pop_as.result ≡ None = search rules in
          let rule = rw popped at c.pop_as.ensures.rule in
          rw w.result-is (ap (λ v. v.known) rule.0 ∙ known)
    ]

pub returns-clause-drained : goal.returns-clause-drained
returns-clause-drained g c =
    let known = ap (λ k. k.record_of) c.pass.view_is in
    elim c.match-pop_as.branch [
      | in-Some-Some w ↦ rw w.result-is tt
      | in-Some-None w ↦
          let popped : c.pop_as.result ≡ Some (finish ∷ []) = search rules in
          let after = c.pop_as.new.pass.me.0.client in
          let took = took_end g.P.Plan.pieces c.pass.inside.pass.me.0.client after (rw popped at c.pop_as.ensures.rule) in
          rw w.result-is (at_an_end g.P.Plan.pieces c.args.pass.now.record_of after.record_of (subst (λ r. TookEntry g.P.Plan.pieces r finish after.record_of) known took.0))
      | in-None w ↦ rw w.result-is tt
    ]

pub returns-clause-empty : goal.returns-clause-empty
returns-clause-empty g c =
    let known = ap (λ k. k.record_of) c.pass.view_is in
    elim c.match-pop_as.branch [
      | in-Some-Some w ↦ rw w.result-is tt
      | in-Some-None w ↦ rw w.result-is tt
      | in-None w ↦
          let popped : c.pop_as.result ≡ None = search rules in
          let rule = rw popped at c.pop_as.ensures.rule in
          let empty = pop_empty g.P.Plan.pieces c.pass.inside.pass.me.0.client rule.1 in
          rw w.result-is (subst (λ r. (fed : ℕ) × Held 0 (IsDrained g.P.Plan.pieces r fed)) known empty)
    ]
