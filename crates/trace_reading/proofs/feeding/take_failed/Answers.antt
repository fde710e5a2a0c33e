use Rattle.std.proofs.Common.{◌∙◌, inl, inr, refl}
use Rattle.trace_reading.proofs.Parts.{taken_sound}
use Rattle.trace_reading.proofs.feeding.take_failed.Goals as goal

pub returns-in-Ok-clause-read : goal.returns-in-Ok-clause-read
returns-in-Ok-clause-read g c = inl (refl, taken_sound g.P.TraceText.text c.take_room.new.self.taken.work.now.queue c.take_room.new.pass c.take_room.new.self.taken.sent _ c.take_room.new.self.taken.text c.in-Ok.ensures.held.cut (c.in-Ok.ensures.all ∙ c.in-Ok.ensures.sent))

pub returns-in-Err-clause-read : goal.returns-in-Err-clause-read
returns-in-Err-clause-read g c = inr c.in-Err.ensures.refused
