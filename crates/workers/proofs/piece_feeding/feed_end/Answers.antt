use Rattle.std.proofs.Common.{◌+◌, ◌∙◌, ap, refl}
use Rattle.shared_work.specs.queue.Rule.{feeder}
use Rattle.workers.proofs.piece_feeding.feed_end.Goals as goal

pub loop-init : goal.loop-init
loop-init g c = refl

pub feed_end-requires : goal.feed_end-requires
feed_end-requires g c = record { queue = ap (λ v. v.queue) c.loop.invariant ∙ c.requires.queue }

pub loop-preserved : goal.loop-preserved
loop-preserved g c =
    let e = c.in-Err.ensures in
    (λ j. record { queue = e.queue j; record_of = e.err j; pieces = e.pieces j }) ∙ c.loop.invariant

pub returns-in-Ok-clause-queue : goal.returns-in-Ok-clause-queue
returns-in-Ok-clause-queue g c = c.feed_end.ensures.queue ∙ ap (λ v. v.queue) c.loop.invariant

pub returns-in-Ok-clause-fed : goal.returns-in-Ok-clause-fed
returns-in-Ok-clause-fed g c =
    c.in-Ok.ensures.ok
    ∙ ap (λ v. feeder v.record_of.fed (v.record_of.ends + 1) v.record_of.pending v.record_of.done v.record_of.taken) c.loop.invariant

pub returns-in-Ok-clause-pieces : goal.returns-in-Ok-clause-pieces
returns-in-Ok-clause-pieces g c = c.feed_end.ensures.pieces ∙ ap (λ v. v.pieces) c.loop.invariant
