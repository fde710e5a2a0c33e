use Rattle.std.proofs.Common.{◌≡◌, ◌∙◌, ap, sym, subst, ◌++◌, append-nil, length, map, refl, Some}
use Rattle.std.specs.Prelude.{IfOk, OnOk}
use Rattle.std.proofs.lemmas.Result.{IfOk-from_err}
use Rattle.line_model.specs.basics.Bounds.{IsPiece}
use Rattle.line_model.specs.pieces.Plans.{end_at, result_of}
use Rattle.restart_epochs.specs.Cutting.{HasEffect, ended_by, gap_by_effect}
use Rattle.report_merge.specs.Gathered.{gathered}
use Rattle.live_report.specs.AddedPieces.{pieces_of}
use Rattle.live_report.specs.Effects.{FindsAt, HasEvents, JudgesBy, MayAffect, epoch_of, with_data}
use Rattle.live_report.proofs.RepresentLemmas.{open_channels_same}
use Rattle.live_report.proofs.TakeLemmas.{open_channels_ended, on_any}
use Rattle.live_report.proofs.open_channels.OpenChannels.apply.Goals as goal

pub step-requires : goal.step-requires
step-requires g c =
    let room = c.requires.room in
    let walk = c.args.walk.now in
    let gap = c.args.self.now.gap in
    record { room = (room.0, room.2.0, room.2.1, subst (λ t. MayAffect t walk.interface gap c.args.item.now room.0) c.in-ToChannel.is room.4) }

pub end_channels-requires-clause-room : goal.end_channels-requires-clause-room
end_channels-requires-clause-room g c =
    let room = c.requires.room in
    (epoch_of c.args.walk.now, room.0, room.1, room.2.0, room.2.1, room.2.2, room.3)

-- ---- a row of a channel

pub returns-in-ToChannel-clause-gap : goal.returns-in-ToChannel-clause-gap
returns-in-ToChannel-clause-gap g c =
    let walk = c.args.walk.now in
    let gap = c.args.self.now.gap in
    subst (λ t. OnOk c.step.result (c.step.new.self.gap ≡ gap_by_effect t c.args.item.now gap)) (sym c.in-ToChannel.is) c.step.ensures.gap

pub returns-in-ToChannel-clause-open_channels : goal.returns-in-ToChannel-clause-open_channels
returns-in-ToChannel-clause-open_channels g c rows represented after may affected =
    let one = c.args.item.now in
    let walk = c.args.walk.now in
    let gap = c.args.self.now.gap in
    let more = subst (λ t. HasEffect t one gap rows after) c.in-ToChannel.is affected in
    c.step.ensures.represented rows represented.0 represented.1 after more (subst (IsPiece walk.interface c.in-ToChannel.channel) (sym more.row) (subst (λ t. MayAffect t walk.interface gap one rows) c.in-ToChannel.is may))

pub returns-in-ToChannel-clause-ended : goal.returns-in-ToChannel-clause-ended
returns-in-ToChannel-clause-ended g c rows represented reports was =
    let walk = c.args.walk.now in
    let gap = c.args.self.now.gap in
    on_any c.step.result _
    (was ∙ ap gathered (sym (append-nil reports))
    ∙ ap (λ t. gathered (reports ++ map result_of (ended_by t walk.interface walk.epoch walk.start (end_at c.args.item.now) (length reports) gap rows))) (sym c.in-ToChannel.is))

pub returns-in-ToChannel-clause-judge : goal.returns-in-ToChannel-clause-judge
returns-in-ToChannel-clause-judge g c rows represented after may affected =
    let one = c.args.item.now in
    let walk = c.args.walk.now in
    let gap = c.args.self.now.gap in
    let more = subst (λ t. HasEffect t one gap rows after) c.in-ToChannel.is affected in
    subst (λ t. IfOk c.step.result (λ row. JudgesBy t walk gap c.args.step.now.machine rows after row.judge)) (sym c.in-ToChannel.is)
    (c.step.ensures.judge rows represented.0 represented.1 after more (subst (IsPiece walk.interface c.in-ToChannel.channel) (sym more.row) (subst (λ t. MayAffect t walk.interface gap one rows) c.in-ToChannel.is may)))

pub returns-in-ToChannel-clause-finding : goal.returns-in-ToChannel-clause-finding
returns-in-ToChannel-clause-finding g c rows represented =
    let walk = c.args.walk.now in
    let gap = c.args.self.now.gap in
    subst (λ t. IfOk c.step.result (λ row. FindsAt t c.args.step.now.finding walk gap rows c.args.item.now row.finding)) (sym c.in-ToChannel.is) (c.step.ensures.finding rows represented.0 represented.1)

pub returns-in-ToChannel-clause-events : goal.returns-in-ToChannel-clause-events
returns-in-ToChannel-clause-events g c rows represented =
    let walk = c.args.walk.now in
    let gap = c.args.self.now.gap in
    subst (λ t. IfOk c.step.result (λ row. HasEvents t walk gap rows c.args.item.now (with_data walk.epoch row.judge c.args.item.now c.step.new.events.items))) (sym c.in-ToChannel.is) (c.step.ensures.events rows represented.0 represented.1)

-- ---- the end of the epoch

pub returns-in_ok-end_channels-in-Ends-clause-open_channels : goal.returns-in_ok-end_channels-in-Ends-clause-open_channels
returns-in_ok-end_channels-in-Ends-clause-open_channels g c rows represented after may affected =
    let walk = c.args.walk.now in
    let gap = c.args.self.now.gap in
    open_channels_ended g.C.Channel.interface_of g.C.Channel.number_of g.C.Channel.represents (epoch_of walk) rows after c.args.item.now gap c.end_channels.new.open_channels.table represented.2
    (subst (λ t. HasEffect t c.args.item.now gap rows after) c.in-Ends.is affected) (c.in_ok-end_channels-in-Ends.ensures.emptied (epoch_of walk) rows represented.0 represented.1 represented.2).0

pub returns-in_ok-end_channels-in-Ends-clause-gap : goal.returns-in_ok-end_channels-in-Ends-clause-gap
returns-in_ok-end_channels-in-Ends-clause-gap g c =
    let room = c.requires.room in
    let walk = c.args.walk.now in
    let gap = c.args.self.now.gap in
    (c.in_ok-end_channels-in-Ends.ensures.emptied (epoch_of walk) room.0 room.2.0 room.2.1 room.2.2).1
    ∙ ap (λ t. gap_by_effect t c.args.item.now gap) (sym c.in-Ends.is)

pub returns-in_ok-end_channels-in-Ends-clause-ended : goal.returns-in_ok-end_channels-in-Ends-clause-ended
returns-in_ok-end_channels-in-Ends-clause-ended g c rows represented reports was =
    let walk = c.args.walk.now in
    let gap = c.args.self.now.gap in
    c.in_ok-end_channels-in-Ends.ensures.values (epoch_of walk) rows reports represented.0 represented.1 represented.2 was
    ∙ ap (λ end. gathered (reports ++ map result_of (pieces_of (epoch_of walk) gap (Some end) rows (length reports) rows.channels))) c.end_at.ensures
    ∙ ap (λ t. gathered (reports ++ map result_of (ended_by t walk.interface walk.epoch walk.start (end_at c.args.item.now) (length reports) gap rows))) (sym c.in-Ends.is)

-- ---- other rows

pub returns-in-ToAll-clause-open_channels : goal.returns-in-ToAll-clause-open_channels
returns-in-ToAll-clause-open_channels g c rows represented after may affected =
    let walk = c.args.walk.now in
    let gap = c.args.self.now.gap in
    open_channels_same g.C.Channel.interface_of g.C.Channel.number_of g.C.Channel.represents (epoch_of walk) (epoch_of walk) rows after c.args.self.now.table represented.0 refl
    (subst (λ t. HasEffect t c.args.item.now gap rows after) c.in-ToAll.is affected)

pub returns-in-Stays-clause-open_channels : goal.returns-in-Stays-clause-open_channels
returns-in-Stays-clause-open_channels g c rows represented after may affected =
    let walk = c.args.walk.now in
    let gap = c.args.self.now.gap in
    open_channels_same g.C.Channel.interface_of g.C.Channel.number_of g.C.Channel.represents (epoch_of walk) (epoch_of walk) rows after c.args.self.now.table represented.0 refl
    (subst (λ t. HasEffect t c.args.item.now gap rows after) c.in-Stays.is affected)

pub returns-in_err-end_channels-in-Ends-clause-gap : goal.returns-in_err-end_channels-in-Ends-clause-gap
returns-in_err-end_channels-in-Ends-clause-gap g c = IfOk-from_err _ _ c.from_residual.ensures.0

pub returns-in_err-end_channels-in-Ends-clause-open_channels : goal.returns-in_err-end_channels-in-Ends-clause-open_channels
returns-in_err-end_channels-in-Ends-clause-open_channels g c rows represented after may affected = IfOk-from_err _ _ c.from_residual.ensures.0

pub returns-in_err-end_channels-in-Ends-clause-ended : goal.returns-in_err-end_channels-in-Ends-clause-ended
returns-in_err-end_channels-in-Ends-clause-ended g c rows represented reports was = IfOk-from_err _ _ c.from_residual.ensures.0

pub returns-in_err-end_channels-in-Ends-clause-judge : goal.returns-in_err-end_channels-in-Ends-clause-judge
returns-in_err-end_channels-in-Ends-clause-judge g c rows represented after may affected = IfOk-from_err _ _ c.from_residual.ensures.0

pub returns-in_err-end_channels-in-Ends-clause-finding : goal.returns-in_err-end_channels-in-Ends-clause-finding
returns-in_err-end_channels-in-Ends-clause-finding g c rows represented = IfOk-from_err _ _ c.from_residual.ensures.0

pub returns-in_err-end_channels-in-Ends-clause-events : goal.returns-in_err-end_channels-in-Ends-clause-events
returns-in_err-end_channels-in-Ends-clause-events g c rows represented = IfOk-from_err _ _ c.from_residual.ensures.0
