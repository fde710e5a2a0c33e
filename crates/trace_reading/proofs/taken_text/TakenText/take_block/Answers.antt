use Rattle.std.proofs.Common.{◌++◌, arith, length, length-append}
use Rattle.trace_text.proofs.SourceLemmas.{passed_on}
use Rattle.trace_reading.proofs.Courses.{fault_at, fault_wider}
use Rattle.trace_reading.proofs.Parts.{begins_more, part_fed, planned_so, taken_length}
use Rattle.trace_reading.proofs.Texts.{part_next}
use Rattle.trace_reading.proofs.taken_text.TakenText.take_block.Goals as goal

pub feed_pieces-requires-clause-next : goal.feed_pieces-requires-clause-next
feed_pieces-requires-clause-next g c =
    let so = c.requires.ready in
    let bytes = c.args.block.bytes in
    let begins = begins_more g.P.TraceText.text so.taken bytes _ so.begins (taken_length so.taken c.args.self.now.text so.cut.taken) c.requires.place.represented in
    part_next g.P.Plan.pieces so.taken bytes c.in_ok-pieces.pieces.items c.args.pass.now.record_of.fed (c.in_ok-pieces.ensures.taken so.taken so.cut.taken).reads.sound so.cut.count (c.in_ok-pieces.ensures.pieces so.taken so.cut.taken)
    (planned_so g.P.Plan.pieces g.P.TraceText.text (so.taken ++ bytes) c.requires.plan begins)

pub returns-clause-taken : goal.returns-clause-taken
returns-clause-taken g c =
    let so = c.requires.ready in
    let bytes = c.args.block.bytes in
    let begins = begins_more g.P.TraceText.text so.taken bytes _ so.begins (taken_length so.taken c.args.self.now.text so.cut.taken) c.requires.place.represented in
    part_fed g.P.TraceText.text c.args.self.now.work.now.queue c.args.pass.now c.feed_pieces.new.pass c.args.self.now.sent c.args.self.now.sent c.args.self.now.text c.take_block.new.self bytes c.in_ok-pieces.pieces.items _ so (omega (arith, c.in_ok-pieces.ensures.size, c.requires.place.few, so.within)) begins (c.in_ok-pieces.ensures.taken so.taken so.cut.taken)
    (c.in_ok-pieces.ensures.pieces so.taken so.cut.taken) c.in_ok-pieces.pieces.ok.0 c.feed_pieces.ensures.fed c.feed_pieces.ensures.kept c.feed_pieces.ensures.queue c.feed_pieces.ensures.pieces

pub returns-in_err-pieces-clause-refused : goal.returns-in_err-pieces-clause-refused
returns-in_err-pieces-clause-refused g c =
    let so = c.requires.ready in
    let bytes = c.args.block.bytes in
    let fault = c.in_err-pieces.field-0.0 in
    let begins = begins_more g.P.TraceText.text so.taken bytes _ so.begins (taken_length so.taken c.args.self.now.text so.cut.taken) c.requires.place.represented in
    passed_on c.from_residual.result fault _ c.from_residual.ensures.1
    (fault_wider g.P.TraceText.text (length (so.taken ++ bytes)) c.args.self.now.sent fault (omega (arith, length-append so.taken bytes, taken_length so.taken c.args.self.now.text so.cut.taken, c.requires.place.few, so.within))
    (fault_at g.P.TraceText.text (so.taken ++ bytes) fault begins (c.in_err-pieces.ensures.refused so.taken so.cut.taken) c.in_err-pieces.ensures.kinds))
