use Rattle.std.proofs.Common.{subst}
use Rattle.std.specs.Prelude.{All}
use Rattle.shared_work.specs.queue.Known.{IsFed}
use Rattle.workers.proofs.Pieces.{value-of-fed, run-of-fed}
use Rattle.workers.proofs.piece_witness.PieceWitness.confirm.Goals as goal

pub returns-clause-fed : goal.returns-clause-fed
returns-clause-fed g c r = value-of-fed c.args.pass.pieces _ r (subst (All (IsFed c.args.pass.pieces)) c.self.view_is c.confirm.ensures.fed)

pub returns-clause-runs : goal.returns-clause-runs
returns-clause-runs g c r = run-of-fed g.N.QueueName.ran c.args.pass.pieces _ r (subst (All (IsFed c.args.pass.pieces)) c.self.view_is c.confirm.ensures.fed)

pub returns-clause-number : goal.returns-clause-number
returns-clause-number g c = c.confirm.ensures.number
