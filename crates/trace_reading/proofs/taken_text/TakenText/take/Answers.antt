use Rattle.std.proofs.Common.{◌≡◌, ◌+◌, ◌++◌, arith, length, length-append}
use Rattle.std.proofs.lemmas.Result.{IfOk-from_err}
use Rattle.trace_text.proofs.SourceLemmas.{passed_on}
use Rattle.trace_reading.proofs.Courses.{fault_at, fault_wider}
use Rattle.trace_reading.proofs.Parts.{begins_more, part_fed, planned_so, taken_length}
use Rattle.trace_reading.proofs.Texts.{part_next}
use Rattle.trace_reading.proofs.taken_text.TakenText.take.Goals as goal

pub feed_pieces-requires-clause-next : goal.feed_pieces-requires-clause-next
feed_pieces-requires-clause-next g c =
    let so = c.in_ok-take_until.ensures.taken in
    let bytes = c.args.bytes.now in
    let at : c.args.self.now.sent ≡ length so.taken = omega (arith, taken_length so.taken c.take_until.new.self.text so.cut.taken, so.within, c.in_ok-take_until.ensures.near) in
    let begins = begins_more g.P.TraceText.text so.taken bytes _ so.begins at c.requires.place in
    part_next g.P.Plan.pieces so.taken bytes c.in_ok-pieces.pieces.items c.take_until.new.pass.record_of.fed (c.in_ok-pieces.ensures.taken so.taken so.cut.taken).reads.sound so.cut.count (c.in_ok-pieces.ensures.pieces so.taken so.cut.taken)
    (planned_so g.P.Plan.pieces g.P.TraceText.text (so.taken ++ bytes) c.requires.plan begins)

pub returns-clause-taken : goal.returns-clause-taken
returns-clause-taken g c =
    let so = c.in_ok-take_until.ensures.taken in
    let bytes = c.args.bytes.now in
    let at : c.args.self.now.sent ≡ length so.taken = omega (arith, taken_length so.taken c.take_until.new.self.text so.cut.taken, so.within, c.in_ok-take_until.ensures.near) in
    let begins = begins_more g.P.TraceText.text so.taken bytes _ so.begins at c.requires.place in
    part_fed g.P.TraceText.text c.take_until.new.self.work.now.queue c.take_until.new.pass c.feed_pieces.new.pass _ _ c.take_until.new.self.text c.feed.new.self bytes c.in_ok-pieces.pieces.items _ so (omega (arith, c.bytes-self.ensures)) begins (c.in_ok-pieces.ensures.taken so.taken so.cut.taken)
    (c.in_ok-pieces.ensures.pieces so.taken so.cut.taken) c.in_ok-pieces.pieces.ok.0 c.feed_pieces.ensures.fed c.feed_pieces.ensures.kept c.feed_pieces.ensures.queue c.feed_pieces.ensures.pieces

pub returns-in_err-take_until-clause-refused : goal.returns-in_err-take_until-clause-refused
returns-in_err-take_until-clause-refused g c =
    let fault = c.in_err-take_until.field-0.0 in
    passed_on c.from_residual.result fault _ c.from_residual.ensures.1 (fault_wider g.P.TraceText.text c.args.self.now.sent (c.args.self.now.sent + length c.args.bytes.now) fault (omega arith) c.in_err-take_until.ensures.refused)

pub returns-in_err-pieces-clause-refused : goal.returns-in_err-pieces-clause-refused
returns-in_err-pieces-clause-refused g c =
    let so = c.in_ok-take_until.ensures.taken in
    let bytes = c.args.bytes.now in
    let fault = c.in_err-pieces.field-0.0 in
    let at : c.args.self.now.sent ≡ length so.taken = omega (arith, taken_length so.taken c.take_until.new.self.text so.cut.taken, so.within, c.in_ok-take_until.ensures.near) in
    let begins = begins_more g.P.TraceText.text so.taken bytes _ so.begins at c.requires.place in
    passed_on c.from_residual-in_err-pieces.result fault _ c.from_residual-in_err-pieces.ensures.1
    (fault_wider g.P.TraceText.text (length (so.taken ++ bytes)) (c.args.self.now.sent + length bytes) fault (omega (arith, length-append so.taken bytes, at))
    (fault_at g.P.TraceText.text (so.taken ++ bytes) fault begins (c.in_err-pieces.ensures.refused so.taken so.cut.taken) c.in_err-pieces.ensures.kinds))

pub returns-in_err-take_until-clause-taken : goal.returns-in_err-take_until-clause-taken
returns-in_err-take_until-clause-taken g c = IfOk-from_err _ _ c.from_residual.ensures.0

pub returns-in_err-take_until-clause-sent : goal.returns-in_err-take_until-clause-sent
returns-in_err-take_until-clause-sent g c = IfOk-from_err _ _ c.from_residual.ensures.0

pub returns-in_err-take_until-clause-all : goal.returns-in_err-take_until-clause-all
returns-in_err-take_until-clause-all g c = IfOk-from_err _ _ c.from_residual.ensures.0

pub returns-in_err-take_until-clause-limit : goal.returns-in_err-take_until-clause-limit
returns-in_err-take_until-clause-limit g c = IfOk-from_err _ _ c.from_residual.ensures.0

pub returns-in_err-pieces-clause-taken : goal.returns-in_err-pieces-clause-taken
returns-in_err-pieces-clause-taken g c = IfOk-from_err _ _ c.from_residual-in_err-pieces.ensures.0

pub returns-in_err-pieces-clause-sent : goal.returns-in_err-pieces-clause-sent
returns-in_err-pieces-clause-sent g c = IfOk-from_err _ _ c.from_residual-in_err-pieces.ensures.0

pub returns-in_err-pieces-clause-all : goal.returns-in_err-pieces-clause-all
returns-in_err-pieces-clause-all g c = IfOk-from_err _ _ c.from_residual-in_err-pieces.ensures.0

pub returns-in_err-pieces-clause-limit : goal.returns-in_err-pieces-clause-limit
returns-in_err-pieces-clause-limit g c = IfOk-from_err _ _ c.from_residual-in_err-pieces.ensures.0
