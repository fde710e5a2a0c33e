use Rattle.shared_work.proofs.Bundles.{bundles_witness}
use Rattle.shared_work.proofs.queue.work.Work.witness_of.Goals as goal

pub another-requires-clause-rule : goal.another-requires-clause-rule
another-requires-clause-rule g c = bundles_witness g.P.Plan.pieces _ _
