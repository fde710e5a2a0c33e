use Rattle.std.proofs.Common.{◌≡◌, ◌<◌, [], length, subst, sym}
use Rattle.std.specs.Prelude.{OnErr, OnOk}
use Rattle.line_model.specs.basics.Device.{with_more}
use Rattle.line_model.specs.basics.Written.{HasFront}
use Rattle.descriptions.specs.Closing.{AreClosingObjects}
use Rattle.descriptions.proofs.ClosingLemmas.{closing_put, taken_all, taken_first}
use Rattle.descriptions.proofs.closing_objects.write_to.Goals as goal

pub returns-clause-ok : goal.returns-clause-ok
returns-clause-ok g c =
    let added = closing_put (length c.args.records.now) c.uncounted_objects.ensures c.call_objects.ensures in
    taken_all c.finish-lent.result.1 (AreClosingObjects (length c.args.records.now)) added.bytes g.B.Origin.before.0 (g.K.Sink.taken c.give_back.result.now) added.formed
    (subst (λ t. OnOk c.finish-lent.result.1 (t ≡ with_more g.B.Origin.before.0 added.bytes)) (sym c.give_back.ensures.taken) (c.finish-lent.ensures.ok added.bytes (added.put [] c.new-2.ensures)))

pub returns-clause-part : goal.returns-clause-part
returns-clause-part g c =
    let added = closing_put (length c.args.records.now) c.uncounted_objects.ensures c.call_objects.ensures in
    taken_first c.finish-lent.result.1 (AreClosingObjects (length c.args.records.now)) added.bytes g.B.Origin.before.0 (g.K.Sink.taken c.give_back.result.now) added.formed
    (subst (λ t. OnErr c.finish-lent.result.1 (HasFront g.B.Origin.before.0 t added.bytes)) (sym c.give_back.ensures.taken) (c.finish-lent.ensures.part added.bytes (added.put [] c.new-2.ensures)))

pub returns-clause-cause : goal.returns-clause-cause
returns-clause-cause g c =
    let added = closing_put (length c.args.records.now) c.uncounted_objects.ensures c.call_objects.ensures in
    subst (λ n. OnErr c.finish-lent.result.1 (g.B.Origin.before.1 < n)) (sym c.give_back.ensures.failures) (c.finish-lent.ensures.cause added.bytes (added.put [] c.new-2.ensures))
