use Rattle.std.proofs.Common.{ap, subst, rules, arith}
use Rattle.std.proofs.lemmas.Grind.{common_steps}
use Rattle.crossbeam_queue.specs.Fifo.{Held}
use Rattle.crossbeam_queue.specs.Passes.{ruled_capacity}
use Rattle.shared_work.specs.queue.Rule.{AreInQueue}
use Rattle.shared_work.proofs.Bundles.{end_pushed, bundles_line}
use Rattle.shared_work.proofs.queue.work.Work.feed_end.Goals.{in-Ok, in-Err}
use Rattle.shared_work.proofs.queue.work.Work.feed_end.Goals as goal

pub push_as-requires-clause-rule : goal.push_as-requires-clause-rule
push_as-requires-clause-rule g c = (end_pushed g.P.Plan.pieces _ _ _ c.pass.invariant.1, bundles_line g.P.Plan.pieces _ _ c.pass.invariant.1)

pub returns-clause-full : goal.returns-clause-full
returns-clause-full g c =
    let capacity = ap (λ v. v.capacity) c.self.view_is in
    let known = ap (λ k. k.record_of) c.pass.view_is in
    elim c.match-push_as.branch [
      | in-Ok w ↦ search rules
      | in-Err w ↦
          let full = (rw w.in-Err.is at c.push_as.ensures.rule).2 in
          let here = subst (λ r. Held (ruled_capacity c.self.inside.queue) (AreInQueue g.P.Plan.pieces r)) known full in
          rw w.result-is (subst (λ n. Held n (AreInQueue g.P.Plan.pieces c.args.pass.now.record_of)) capacity here)
    ]

pub returns-clause-ok : goal.returns-clause-ok
returns-clause-ok g c = grind (arith, common_steps)

pub returns-clause-err : goal.returns-clause-err
returns-clause-err g c = grind (arith, common_steps)
