use Rattle.shared_work.proofs.Bundles.{bundles_witness}
use Rattle.shared_work.proofs.queue.work.Work.witness.Goals as goal

pub another-pass-requires-clause-rule : goal.another-pass-requires-clause-rule
another-pass-requires-clause-rule g c = bundles_witness g.P.Plan.pieces _ _
