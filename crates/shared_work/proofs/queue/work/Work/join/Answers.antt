use Rattle.std.proofs.Common.{ap}
use Rattle.shared_work.proofs.Bundles.{bundles_join, bundles_account}
use Rattle.shared_work.proofs.queue.work.Work.join.Goals as goal

pub absorb-requires-clause-rule : goal.absorb-requires-clause-rule
absorb-requires-clause-rule g c = bundles_join g.P.Plan.pieces _ _ _ _ c.pass.invariant.1 (ap (λ v. v.works) c.other.invariant.1)

pub learn_as-requires-clause-rule : goal.learn_as-requires-clause-rule
learn_as-requires-clause-rule g c = bundles_account g.P.Plan.pieces _ _ (ap (λ v. v.record_of.feeds) c.absorb.ensures.rule)
