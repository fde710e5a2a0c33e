use Rattle.shared_work.proofs.Adding.{forgotten_more}
use Rattle.shared_work.proofs.findings.room.forget.Goals as goal

pub loop-id-preserved : goal.loop-id-preserved
loop-id-preserved g c =
    forgotten_more c.args.known.now c.loop-id.known c.remove.new.self c.args.ids.now c.loop-id.id-index c.loop-id-test.true c.requires.known c.loop-id.invariant c.remove.ensures.updates
