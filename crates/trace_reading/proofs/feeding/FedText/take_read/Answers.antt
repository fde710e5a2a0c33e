use Rattle.std.proofs.Common.{◌+◌, ◌^◌, arith, length}
use Rattle.std.proofs.lemmas.Result.{IfOk-from_err}
use Rattle.trace_text.proofs.SourceLemmas.{passed_on}
use Rattle.trace_reading.proofs.Courses.{fault_wider}
use Rattle.trace_reading.proofs.Parts.{err_wider, fed_both, near_none, ok_few, ok_holds, ok_is}
use Rattle.trace_reading.proofs.feeding.FedText.take_read.Goals as goal

-- ---- the text is too long

pub returns-then-passes_limit-clause-near : goal.returns-then-passes_limit-clause-near
returns-then-passes_limit-clause-near g c = near_none c.take_room.result _ c.take_room.new.self.taken.sent c.take_room.new.self.room.items c.take_room.ensures.none c.take_room.ensures.all

pub returns-then-passes_limit-clause-wide : goal.returns-then-passes_limit-clause-wide
returns-then-passes_limit-clause-wide g c = ok_holds c.take_room.result c.take_room.ensures.wide

-- ---- a part was refused

pub returns-in_err-widen-clause-fed : goal.returns-in_err-widen-clause-fed
returns-in_err-widen-clause-fed g c = fed_both c.args.pass.now c.send_ready.new.pass c.widen.new.pass c.send_ready.ensures.fed c.widen.ensures.fed

pub returns-in_err-widen-clause-refused : goal.returns-in_err-widen-clause-refused
returns-in_err-widen-clause-refused g c =
    let fault = c.in_err-widen.field-0.0 in
    passed_on c.from_residual-in_err-widen.result fault _ c.from_residual-in_err-widen.ensures.1
    (fault_wider g.P.TraceText.text (c.send_ready.new.self.taken.sent + length c.send_ready.new.self.room.items) (c.args.self.now.taken.sent + length c.args.self.now.room.items) fault (omega (arith, c.in_ok-send_ready.ensures.size)) c.in_err-widen.ensures.refused)

-- ---- all of it

pub returns-clause-fed : goal.returns-clause-fed
returns-clause-fed g c = fed_both c.args.pass.now c.widen.new.pass c.keep_up.new.pass (fed_both c.args.pass.now c.send_ready.new.pass c.widen.new.pass c.send_ready.ensures.fed c.widen.ensures.fed) c.keep_up.ensures.fed

pub returns-clause-size : goal.returns-clause-size
returns-clause-size g c = ok_is c.keep_up.result _ (c.widen.new.self.taken.sent + length c.widen.new.self.room.items) (c.args.self.now.taken.sent + length c.args.self.now.room.items) (omega (arith, c.in_ok-send_ready.ensures.size, c.in_ok-widen.ensures.size)) c.keep_up.ensures.size

pub returns-clause-limit : goal.returns-clause-limit
returns-clause-limit g c =
    let few = c.passes_limit.ensures c.if-passes_limit.false in
    ok_few c.keep_up.result _ (c.widen.new.self.taken.sent + length c.widen.new.self.room.items) (2 ^ 30) (omega (arith, few, c.in_ok-send_ready.ensures.size, c.in_ok-widen.ensures.size)) c.keep_up.ensures.size

pub returns-clause-refused : goal.returns-clause-refused
returns-clause-refused g c = err_wider c.keep_up.result g.P.TraceText.text (c.widen.new.self.taken.sent + length c.widen.new.self.room.items) (c.args.self.now.taken.sent + length c.args.self.now.room.items) (omega (arith, c.in_ok-send_ready.ensures.size, c.in_ok-widen.ensures.size)) c.keep_up.ensures.refused

pub returns-clause-wide : goal.returns-clause-wide
returns-clause-wide g c = ok_holds c.keep_up.result (c.keep_up.ensures.wide c.in_ok-widen.ensures.wide)

pub returns-in_err-send_ready-clause-held : goal.returns-in_err-send_ready-clause-held
returns-in_err-send_ready-clause-held g c = IfOk-from_err _ _ c.from_residual.ensures.0

pub returns-in_err-send_ready-clause-size : goal.returns-in_err-send_ready-clause-size
returns-in_err-send_ready-clause-size g c = IfOk-from_err _ _ c.from_residual.ensures.0

pub returns-in_err-send_ready-clause-limit : goal.returns-in_err-send_ready-clause-limit
returns-in_err-send_ready-clause-limit g c = IfOk-from_err _ _ c.from_residual.ensures.0

pub returns-in_err-send_ready-clause-near : goal.returns-in_err-send_ready-clause-near
returns-in_err-send_ready-clause-near g c = IfOk-from_err _ _ c.from_residual.ensures.0

pub returns-in_err-send_ready-clause-wide : goal.returns-in_err-send_ready-clause-wide
returns-in_err-send_ready-clause-wide g c = IfOk-from_err _ _ c.from_residual.ensures.0

pub returns-in_err-widen-clause-held : goal.returns-in_err-widen-clause-held
returns-in_err-widen-clause-held g c = IfOk-from_err _ _ c.from_residual-in_err-widen.ensures.0

pub returns-in_err-widen-clause-size : goal.returns-in_err-widen-clause-size
returns-in_err-widen-clause-size g c = IfOk-from_err _ _ c.from_residual-in_err-widen.ensures.0

pub returns-in_err-widen-clause-limit : goal.returns-in_err-widen-clause-limit
returns-in_err-widen-clause-limit g c = IfOk-from_err _ _ c.from_residual-in_err-widen.ensures.0

pub returns-in_err-widen-clause-near : goal.returns-in_err-widen-clause-near
returns-in_err-widen-clause-near g c = IfOk-from_err _ _ c.from_residual-in_err-widen.ensures.0

pub returns-in_err-widen-clause-wide : goal.returns-in_err-widen-clause-wide
returns-in_err-widen-clause-wide g c = IfOk-from_err _ _ c.from_residual-in_err-widen.ensures.0

pub returns-in_err-send_ready-clause-refused : goal.returns-in_err-send_ready-clause-refused
returns-in_err-send_ready-clause-refused g c = passed_on c.from_residual.result c.in_err-send_ready.field-0.0 _ c.from_residual.ensures.1 c.in_err-send_ready.ensures.refused

pub send_ready-requires-clause-few : goal.send_ready-requires-clause-few
send_ready-requires-clause-few g c = c.passes_limit.ensures c.if-passes_limit.false

pub widen-requires-clause-held : goal.widen-requires-clause-held
widen-requires-clause-held g c = c.in_ok-send_ready.ensures.held

pub keep_up-requires-clause-held : goal.keep_up-requires-clause-held
keep_up-requires-clause-held g c = c.in_ok-widen.ensures.held
