use Rattle.shared_work.proofs.Adding.{from_not, from_not_false, noted_more, twice}
use Rattle.shared_work.proofs.findings.room.note_each.Goals as goal

pub returns-in-Ok-false-clause-refused : goal.returns-in-Ok-false-clause-refused
returns-in-Ok-false-clause-refused g c =
    twice c.args.known.now c.loop-index.known c.args.ids.now c.loop-index.index c.loop-index-test.true c.loop-index.invariant (from_not_false _ _ c.in-Ok-false.ensures.added c.in-Ok-false.field-0-test)

pub loop-index-preserved : goal.loop-index-preserved
loop-index-preserved g c =
    noted_more c.args.known.now c.loop-index.known c.insert.new.self c.args.ids.now c.loop-index.index c.loop-index-test.true c.loop-index.invariant
    (from_not _ _ c.in-Ok-true.ensures.added c.in-Ok-true.field-0-test) c.in-Ok-true.ensures.updates
