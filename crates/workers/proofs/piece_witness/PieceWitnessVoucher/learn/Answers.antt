use Rattle.std.proofs.Common.{◌++◌, ap, ◌∙◌}
use Rattle.workers.proofs.Pieces.{vouches-front, vouches-back}
use Rattle.workers.proofs.piece_witness.PieceWitnessVoucher.learn.Goals as goal

pub returns-clause-kept : goal.returns-clause-kept
returns-clause-kept g c r = vouches-front g.N.QueueName.ran c.args.self.now c.other.inside.witness.pieces _ r (c.learn.ensures.pieces ∙ ap (λ l. l ++ c.other.inside.witness.pieces) c.self.view_is)

pub returns-clause-learned : goal.returns-clause-learned
returns-clause-learned g c r = vouches-back g.N.QueueName.ran c.self.inside.witness.pieces c.args.other _ r (c.learn.ensures.pieces ∙ ap (λ l. c.self.inside.witness.pieces ++ l) c.other.view_is)
