use Rattle.std.proofs.Common.{◌≡◌, ◌+◌, ◌^◌, arith, length, rules}
use Rattle.trace_reading.proofs.Parts.{few_none, held_none, ok_is, size_none}
use Rattle.trace_reading.proofs.feeding.FedText.take_room.Goals as goal

pub returns-clause-held : goal.returns-clause-held
returns-clause-held g c = held_none c.take-taken.result g.P.TraceText.text c.take-taken.new.self.work.now.queue c.take-taken.new.pass c.take-taken.new.self.sent c.clear.new.self.items c.take-taken.new.self.text c.clear.ensures.none c.take-taken.ensures.taken c.take-taken.ensures.all

pub returns-clause-size : goal.returns-clause-size
returns-clause-size g c =
    let read : length c.as_slice.result.now ≡ length c.args.self.now.room.items = search rules in
    size_none c.take-taken.result c.take-taken.new.self.sent (c.args.self.now.taken.sent + length c.args.self.now.room.items) c.clear.new.self.items c.clear.ensures.none (ok_is c.take-taken.result c.take-taken.new.self.sent (c.args.self.now.taken.sent + length c.as_slice.result.now) (c.args.self.now.taken.sent + length c.args.self.now.room.items) (omega (arith, read)) c.take-taken.ensures.sent)

pub returns-clause-limit : goal.returns-clause-limit
returns-clause-limit g c = few_none c.take-taken.result c.take-taken.new.self.sent (2 ^ 30) c.clear.new.self.items c.clear.ensures.none c.take-taken.ensures.limit
