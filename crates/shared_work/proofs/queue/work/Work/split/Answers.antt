use Rattle.shared_work.proofs.Bundles.{bundles_split}
use Rattle.shared_work.proofs.queue.work.Work.split.Goals as goal

pub another-pass-requires-clause-rule : goal.another-pass-requires-clause-rule
another-pass-requires-clause-rule g c = bundles_split g.P.Plan.pieces _ _ c.pass.invariant.1
