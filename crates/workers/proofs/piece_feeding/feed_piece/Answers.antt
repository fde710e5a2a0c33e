use Rattle.std.proofs.Common.{sym, subst}
use Rattle.shared_work.proofs.Bundles.{one_planned}
use Rattle.shared_work.specs.queue.Rule.{ArePlanned}
use Rattle.workers.proofs.piece_feeding.feed_piece.Goals as goal

pub feed_bundle-requires-clause-next : goal.feed_bundle-requires-clause-next
feed_bundle-requires-clause-next g c = subst (ArePlanned g.P.Plan.pieces c.args.pass.now.record_of.fed) (sym c.of.ensures) (one_planned g.P.Plan.pieces c.args.pass.now.record_of.fed c.args.piece c.requires.next)
