use Rattle.shared_work.proofs.Bundles.{bundles_learn}
use Rattle.shared_work.proofs.queue.work.Work.learn.Goals as goal

pub absorb-requires-clause-rule : goal.absorb-requires-clause-rule
absorb-requires-clause-rule g c = bundles_learn g.P.Plan.pieces _ _ _ _ c.other.invariant.1
