use Rattle.std.proofs.Common.{◌≡◌, ◌∷◌, ◌+◌, ◌++◌, [], Ok, Err, length, sym, ap, ◌∙◌, subst, rules}
use Rattle.crossbeam_queue.specs.Fifo.{Held}
use Rattle.crossbeam_queue.specs.Passes.{ruled_capacity}
use Rattle.line_model.specs.work.Work.WorkEntry.{finish}
use Rattle.shared_work.specs.queue.Entries.{jobs}
use Rattle.shared_work.specs.queue.Rule.{feeder, ArePlanned, AreInQueue}
use Rattle.shared_work.proofs.Bundles.{bundle_pushed, bundles_line, bundle_fed, jobs_again, no_jobs}
use Rattle.shared_work.proofs.queue.work.Work.feed_bundle.Goals.{in-Ok, in-Err-Some}
use Rattle.shared_work.proofs.queue.work.Work.feed_bundle.Goals as goal

pub push_as-requires-clause-rule : goal.push_as-requires-clause-rule
push_as-requires-clause-rule g c =
    let is = ap (λ k. k.record_of) c.pass.view_is in (
      bundle_pushed g.P.Plan.pieces _ _ _ c.args.bundle c.pass.invariant.1 (ap (λ r. r.ends) is ∙ c.requires.open) c.requires.some (subst (λ n. ArePlanned g.P.Plan.pieces n c.args.bundle) (sym (ap (λ r. r.fed) is)) c.requires.next),
      bundles_line g.P.Plan.pieces _ _ c.pass.invariant.1,
    )

pub unreachable-requires : goal.unreachable-requires
unreachable-requires g c =
    let back : c.push_as.result ≡ Err (finish ∷ []) = search rules in
    no_jobs c.args.bundle (rw back at c.push_as.ensures.rule).0

pub returns-clause-ok : goal.returns-clause-ok
returns-clause-ok g c =
    elim c.match-push_as.branch [
      | in-Ok w ↦
          let pushed : c.push_as.result ≡ Ok (tt {0}) = search rules in
          let fed = bundle_fed c.pass.inside.pass.me.0.client c.push_as.new.pass.me.0.client c.args.bundle (rw pushed at c.push_as.ensures.rule) in
          rw w.result-is (fed.0 ∙ ap (λ v. feeder (v.record_of.fed + length c.args.bundle) v.record_of.ends v.record_of.pending v.record_of.done v.record_of.taken) c.pass.view_is)
      | in-Err-Some w ↦ rw w.result-is tt
    ]

pub returns-clause-err : goal.returns-clause-err
returns-clause-err g c =
    elim c.match-push_as.branch [
      | in-Ok w ↦ rw w.result-is tt
      | in-Err-Some w ↦
          let back : c.push_as.result ≡ Err (jobs w.in-Err-Some.bundle) = search rules in
          let rule = rw back at c.push_as.ensures.rule in
          rw w.result-is (jobs_again _ _ rule.0, ap (λ v. v.record_of) rule.1 ∙ ap (λ v. v.record_of) c.pass.view_is)
    ]

pub returns-clause-pieces : goal.returns-clause-pieces
returns-clause-pieces g c =
    elim c.match-push_as.branch [
      | in-Ok w ↦
          let pushed : c.push_as.result ≡ Ok (tt {0}) = search rules in
          let fed = bundle_fed c.pass.inside.pass.me.0.client c.push_as.new.pass.me.0.client c.args.bundle (rw pushed at c.push_as.ensures.rule) in
          rw w.result-is (fed.1 ∙ ap (λ v. v.pieces ++ c.args.bundle) c.pass.view_is)
      | in-Err-Some w ↦
          let back : c.push_as.result ≡ Err (jobs w.in-Err-Some.bundle) = search rules in
          let rule = rw back at c.push_as.ensures.rule in
          rw w.result-is (ap (λ v. v.fed) rule.1 ∙ ap (λ v. v.pieces) c.pass.view_is)
    ]

pub returns-clause-full : goal.returns-clause-full
returns-clause-full g c =
    let capacity = ap (λ v. v.capacity) c.self.view_is in
    let known = ap (λ k. k.record_of) c.pass.view_is in
    elim c.match-push_as.branch [
      | in-Ok w ↦ rw w.result-is tt
      | in-Err-Some w ↦
          let back : c.push_as.result ≡ Err (jobs w.in-Err-Some.bundle) = search rules in
          let full = (rw back at c.push_as.ensures.rule).2 in
          let here = subst (λ r. Held (ruled_capacity c.self.inside.queue) (AreInQueue g.P.Plan.pieces r)) known full in
          rw w.result-is (subst (λ n. Held n (AreInQueue g.P.Plan.pieces c.args.pass.now.record_of)) capacity here)
    ]

pub invariant_of-pass : goal.invariant_of-pass
invariant_of-pass g c =
    let same = c.push_as.ensures.queue.2 ∙ c.pass.invariant.0 in
    elim c.match-push_as.branch [
      | in-Ok w ↦
          let pushed : c.push_as.result ≡ Ok (tt {0}) = search rules in
          let fed = rw pushed at c.push_as.ensures.rule in
          (same, ap (λ r. r.feeds) fed.0, fed.2 ∙ c.pass.invariant.2)
      | in-Err-Some w ↦
          let back : c.push_as.result ≡ Err (jobs w.in-Err-Some.bundle) = search rules in
          let rule = (rw back at c.push_as.ensures.rule).1 in
          (same, ap (λ v. v.record_of.feeds) rule ∙ c.pass.invariant.1, ap (λ v. v.known) rule ∙ c.pass.invariant.2)
    ]
