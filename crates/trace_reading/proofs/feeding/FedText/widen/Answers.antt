use Rattle.std.proofs.Common.{refl, subst, sym}
use Rattle.trace_reading.specs.Readings.{IsHeld}
use Rattle.trace_reading.proofs.feeding.FedText.widen.Goals as goal

pub returns-then-widen-clause-fed : goal.returns-then-widen-clause-fed
returns-then-widen-clause-fed g c = record { kept = record { ends = c.requires.held.cut.no_ends; pending = refl; done = refl; taken = refl }; same = refl }

pub returns-then-widen-clause-held : goal.returns-then-widen-clause-held
returns-then-widen-clause-held g c = subst (λ xs. IsHeld g.P.TraceText.text c.args.self.now.taken.work.now.queue c.args.pass.now c.args.self.now.taken.sent xs c.args.self.now.taken.text) (sym c.widen.ensures.same) c.requires.held

pub returns-then-widen-clause-wide : goal.returns-then-widen-clause-wide
returns-then-widen-clause-wide g c = c.widen.ensures.wide c.if-widen.true

pub take_room-requires-clause-held : goal.take_room-requires-clause-held
take_room-requires-clause-held g c = subst (λ xs. IsHeld g.P.TraceText.text c.args.self.now.taken.work.now.queue c.args.pass.now c.args.self.now.taken.sent xs c.args.self.now.taken.text) (sym c.widen.ensures.same) c.requires.held

pub returns-clause-fed : goal.returns-clause-fed
returns-clause-fed g c = c.take_room.ensures.fed

pub returns-clause-held : goal.returns-clause-held
returns-clause-held g c = c.take_room.ensures.held
