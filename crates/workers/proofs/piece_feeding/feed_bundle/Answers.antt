use Rattle.std.proofs.Common.{◌+◌, ◌<◌, ◌++◌, ◌∙◌, length, ap, refl, subst, sym}
use Rattle.shared_work.specs.queue.Rule.{feeder, ArePlanned}
use Rattle.workers.proofs.piece_feeding.feed_bundle.Goals as goal

pub loop-init : goal.loop-init
loop-init g c = (refl, refl)

pub feed_bundle-requires-clause-queue : goal.feed_bundle-requires-clause-queue
feed_bundle-requires-clause-queue g c = ap (λ v. v.queue) c.loop.invariant.0 ∙ c.requires.queue

pub feed_bundle-requires-clause-next : goal.feed_bundle-requires-clause-next
feed_bundle-requires-clause-next g c =
    subst (λ ps. ArePlanned g.P.Plan.pieces c.loop.pass.record_of.fed ps) (sym c.loop.invariant.1)
    (subst (λ v. ArePlanned g.P.Plan.pieces v.record_of.fed c.args.bundle) (sym c.loop.invariant.0) c.requires.next)

pub feed_bundle-requires-clause-some : goal.feed_bundle-requires-clause-some
feed_bundle-requires-clause-some g c = subst (λ ps. 0 < length ps) (sym c.loop.invariant.1) c.requires.some

pub feed_bundle-requires-clause-open : goal.feed_bundle-requires-clause-open
feed_bundle-requires-clause-open g c = ap (λ v. v.record_of.ends) c.loop.invariant.0 ∙ c.requires.open

pub loop-preserved : goal.loop-preserved
loop-preserved g c =
    let e = c.in-Err.ensures in
    ((λ j. record { queue = e.queue j; record_of = e.err.1 j; pieces = e.pieces j }) ∙ c.loop.invariant.0, e.err.0 ∙ c.loop.invariant.1)

pub returns-in-Ok-clause-queue : goal.returns-in-Ok-clause-queue
returns-in-Ok-clause-queue g c = c.feed_bundle.ensures.queue ∙ ap (λ v. v.queue) c.loop.invariant.0

pub returns-in-Ok-clause-fed : goal.returns-in-Ok-clause-fed
returns-in-Ok-clause-fed g c =
    c.in-Ok.ensures.ok
    ∙ ((λ j. feeder (c.loop.pass.record_of.fed + length (c.loop.invariant.1 j)) c.loop.pass.record_of.ends c.loop.pass.record_of.pending c.loop.pass.record_of.done c.loop.pass.record_of.taken)
    ∙ ap (λ v. feeder (v.record_of.fed + length c.args.bundle) v.record_of.ends v.record_of.pending v.record_of.done v.record_of.taken) c.loop.invariant.0)

pub returns-in-Ok-clause-pieces : goal.returns-in-Ok-clause-pieces
returns-in-Ok-clause-pieces g c = c.in-Ok.ensures.pieces ∙ (λ j. (c.loop.invariant.0 j).pieces ++ c.loop.invariant.1 j)
