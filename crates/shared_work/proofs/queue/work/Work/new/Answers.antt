use Rattle.shared_work.proofs.Bundles.{bundles_begin}
use Rattle.shared_work.proofs.queue.work.Work.new.Goals as goal

pub ruled-requires-clause-rule : goal.ruled-requires-clause-rule
ruled-requires-clause-rule g c = bundles_begin g.P.Plan.pieces
