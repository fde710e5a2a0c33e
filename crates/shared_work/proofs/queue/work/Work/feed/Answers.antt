use Rattle.std.proofs.Common.{sym, subst, arith}
use Rattle.std.proofs.lemmas.Grind.{common_steps, elements}
use Rattle.shared_work.specs.queue.Rule.{ArePlanned}
use Rattle.shared_work.proofs.Bundles.{one_planned}
use Rattle.shared_work.proofs.queue.work.Work.feed.Goals as goal

pub feed_bundle-requires-clause-next : goal.feed_bundle-requires-clause-next
feed_bundle-requires-clause-next g c = subst (ArePlanned g.P.Plan.pieces c.args.pass.now.record_of.fed) (sym c.of.ensures) (one_planned g.P.Plan.pieces c.args.pass.now.record_of.fed c.args.piece c.requires.next)

pub feed_bundle-requires-clause-some : goal.feed_bundle-requires-clause-some
feed_bundle-requires-clause-some g c = grind (arith, elements)

pub returns-clause-err : goal.returns-clause-err
returns-clause-err g c = grind (arith, common_steps)
