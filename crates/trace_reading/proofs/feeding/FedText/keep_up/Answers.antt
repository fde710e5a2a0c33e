use Rattle.std.proofs.Common.{◌+◌, ap, arith, length, subst, sym}
use Rattle.std.specs.Prelude.{OnOk}
use Rattle.restart_epochs.proofs.Taken.{on_ok}
use Rattle.trace_reading.proofs.Parts.{err_wider, near_none, ok_holds}
use Rattle.trace_reading.specs.Readings.{IsHeld}
use Rattle.trace_reading.proofs.feeding.FedText.keep_up.Goals as goal

pub returns-in-Some-clause-refused : goal.returns-in-Some-clause-refused
returns-in-Some-clause-refused g c = err_wider c.take_until.result g.P.TraceText.text c.args.self.now.taken.sent (c.args.self.now.taken.sent + length c.args.self.now.room.items) (omega arith) c.take_until.ensures.refused

pub returns-in-Some-clause-held : goal.returns-in-Some-clause-held
returns-in-Some-clause-held g c =
    subst (λ n. OnOk c.take_until.result (IsHeld g.P.TraceText.text c.take_until.new.self.work.now.queue c.take_until.new.pass n c.args.self.now.room.items c.take_until.new.self.text)) (sym c.take_until.ensures.sent)
    (on_ok c.take_until.result _ _ c.take_until.ensures.taken (λ so. record { cut = so; place = c.requires.held.place }))

pub returns-in-Some-clause-size : goal.returns-in-Some-clause-size
returns-in-Some-clause-size g c = ok_holds c.take_until.result (ap (λ n. n + length c.args.self.now.room.items) c.take_until.ensures.sent)

pub returns-in-None-clause-near : goal.returns-in-None-clause-near
returns-in-None-clause-near g c = near_none c.take_room.result _ c.take_room.new.self.taken.sent c.take_room.new.self.room.items c.take_room.ensures.none c.take_room.ensures.all
