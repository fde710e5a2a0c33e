use Rattle.std.proofs.Common.{◌++◌, ◌∷◌, []}
use Rattle.live_report.proofs.TakeLemmas.{on_any}
use Rattle.live_report.proofs.observing.observe_last.Goals as goal
use Rattle.line_model.specs.packets.Says.{item_read}

pub end-requires : goal.end-requires
end-requires g c =
    let room = c.requires.room in
    record { room = (room.0, room.1 ++ item_read room.0 c.args.row.now ∷ [], c.in_default.ensures.represented room.0 room.1 room.2 room.3) }

pub returns-clause-report : goal.returns-clause-report
returns-clause-report g c i rows s sound = c.end.ensures.report i (rows ++ item_read i c.args.row.now ∷ []) (c.in_default.ensures.represented i rows s sound)

pub returns-clause-uncounted : goal.returns-clause-uncounted
returns-clause-uncounted g c i rows s sound =
    on_any c.end.result _ (c.uncounted.ensures.walked i (rows ++ item_read i c.args.row.now ∷ []) (c.in_default.ensures.represented i rows s sound))
