use Rattle.std.proofs.Common.{◌≡◌, ◌++◌, ◌∷◌, [], subst, sym}
use Rattle.line_model.specs.basics.Bounds.{IsPiece}
use Rattle.restart_epochs.specs.Cutting.{items_out}
use Rattle.restart_epochs.specs.OpenRows.{rows_of}
use Rattle.channel_run.specs.Live.{channel_so_far}
use Rattle.channel_run.specs.Run.{row_events}
use Rattle.live_report.specs.JudgedRows.{IsTaker}
use Rattle.live_report.specs.OpenChannels.{FindsOn, IsOpenFor, begun_piece}
use Rattle.live_report.specs.Effects.{epoch_of, with_data}
use Rattle.live_report.proofs.OpenChannelLemmas.{put_back, stepped_from}
use Rattle.std.proofs.lemmas.Result.{IfOk-from_err}
use Rattle.live_report.proofs.open_channels.OpenChannels.step.Goals as goal

pub step-requires : goal.step-requires
step-requires g c =
    let room = c.requires.room in
    let e = epoch_of c.args.walk.now in
    let k = c.args.channel in
    let gap = c.in_ok-entry.ensures.gap in
    record {
      room = (
        e,
        rows_of room.0 k,
        subst (IsOpenFor g.C.Channel e k (rows_of room.0 k)) (sym c.deref_mut.ensures.value) (c.in_ok-entry.ensures.out room.0 room.1 room.2).represented,
        subst (λ n. IsPiece e.interface k (items_out n room.0 k)) (sym gap) (room.2 k),
        subst (λ n. IsPiece e.interface k (items_out n room.0 k ++ c.args.item.now ∷ [])) (sym gap) room.3,
      );
    }

pub returns-clause-represented : goal.returns-clause-represented
returns-clause-represented g c rows f pieces after more small =
    let e = epoch_of c.args.walk.now in
    let k = c.args.channel in
    let out = c.in_ok-entry.ensures.out rows f pieces in
    let stepped = stepped_from g.C.Channel e k rows c.take_out.new.self.gap c.args.self.now.gap c.in_ok-entry.entry.value c.deref_mut.result.now
    (λ e items. IsPiece e.interface k (items ++ c.args.item.now ∷ []) → IsOpenFor g.C.Channel e k (items ++ c.args.item.now ∷ []) c.step.new.self) c.in_ok-entry.ensures.gap c.deref_mut.ensures.value out.represented (pieces k) c.in_ok-outcome.ensures.represented in
    put_back g.C.Channel.interface_of g.C.Channel.number_of g.C.Channel.represents e c.args.self.now.gap k rows after c.args.item.now c.take_out.new.self.table c.put.new.self
    c.in_ok-entry.entry.value c.step.new.self out (stepped (subst (IsPiece e.interface k) more.row small)) c.put.ensures more

pub returns-clause-judge : goal.returns-clause-judge
returns-clause-judge g c rows f pieces after more small =
    let e = epoch_of c.args.walk.now in
    let k = c.args.channel in
    let out = c.in_ok-entry.ensures.out rows f pieces in
    let by = c.in_ok-outcome.outcome.judge in
    let judged = stepped_from g.C.Channel e k rows c.take_out.new.self.gap c.args.self.now.gap c.in_ok-entry.entry.value c.deref_mut.result.now
    (λ e items. IsPiece e.interface k (items ++ c.args.item.now ∷ []) → IsTaker e.interface k (channel_so_far (begun_piece e k items)) (channel_so_far (begun_piece e k (items ++ c.args.item.now ∷ []))) by) c.in_ok-entry.ensures.gap c.deref_mut.ensures.value out.represented (pieces k) c.in_ok-outcome.ensures.judge in
    subst (λ items. IsTaker e.interface k (channel_so_far (begun_piece e k (items_out c.args.self.now.gap rows k))) (channel_so_far (begun_piece e k items)) by) (sym more.row)
    (judged (subst (IsPiece e.interface k) more.row small))

pub returns-clause-finding : goal.returns-clause-finding
returns-clause-finding g c rows f pieces =
    stepped_from g.C.Channel (epoch_of c.args.walk.now) c.args.channel rows c.take_out.new.self.gap c.args.self.now.gap c.in_ok-entry.entry.value c.deref_mut.result.now
    (λ e items. FindsOn (begun_piece e c.args.channel items) c.args.item.now c.in_ok-outcome.outcome.finding) c.in_ok-entry.ensures.gap c.deref_mut.ensures.value
    (c.in_ok-entry.ensures.out rows f pieces).represented (pieces c.args.channel) c.in_ok-outcome.ensures.finding

pub returns-clause-events : goal.returns-clause-events
returns-clause-events g c rows f pieces =
    stepped_from g.C.Channel (epoch_of c.args.walk.now) c.args.channel rows c.take_out.new.self.gap c.args.self.now.gap c.in_ok-entry.entry.value c.deref_mut.result.now
    (λ e items. with_data e.number c.in_ok-outcome.outcome.judge c.args.item.now c.step.new.events.items ≡ row_events e.interface e.number c.args.channel (channel_so_far (begun_piece e c.args.channel items)) c.args.item.now) c.in_ok-entry.ensures.gap c.deref_mut.ensures.value
    (c.in_ok-entry.ensures.out rows f pieces).represented (pieces c.args.channel) c.in_ok-outcome.ensures.events

pub returns-in_err-entry-clause-gap : goal.returns-in_err-entry-clause-gap
returns-in_err-entry-clause-gap g c = IfOk-from_err _ _ c.from_residual.ensures.0

pub returns-in_err-entry-clause-represented : goal.returns-in_err-entry-clause-represented
returns-in_err-entry-clause-represented g c rows f pieces after more small = IfOk-from_err _ _ c.from_residual.ensures.0

pub returns-in_err-entry-clause-judge : goal.returns-in_err-entry-clause-judge
returns-in_err-entry-clause-judge g c rows f pieces after more small = IfOk-from_err _ _ c.from_residual.ensures.0

pub returns-in_err-entry-clause-finding : goal.returns-in_err-entry-clause-finding
returns-in_err-entry-clause-finding g c rows f pieces = IfOk-from_err _ _ c.from_residual.ensures.0

pub returns-in_err-entry-clause-events : goal.returns-in_err-entry-clause-events
returns-in_err-entry-clause-events g c rows f pieces = IfOk-from_err _ _ c.from_residual.ensures.0

pub returns-in_err-outcome-clause-gap : goal.returns-in_err-outcome-clause-gap
returns-in_err-outcome-clause-gap g c = IfOk-from_err _ _ c.from_residual-in_err-outcome.ensures.0

pub returns-in_err-outcome-clause-represented : goal.returns-in_err-outcome-clause-represented
returns-in_err-outcome-clause-represented g c rows f pieces after more small = IfOk-from_err _ _ c.from_residual-in_err-outcome.ensures.0

pub returns-in_err-outcome-clause-judge : goal.returns-in_err-outcome-clause-judge
returns-in_err-outcome-clause-judge g c rows f pieces after more small = IfOk-from_err _ _ c.from_residual-in_err-outcome.ensures.0

pub returns-in_err-outcome-clause-finding : goal.returns-in_err-outcome-clause-finding
returns-in_err-outcome-clause-finding g c rows f pieces = IfOk-from_err _ _ c.from_residual-in_err-outcome.ensures.0

pub returns-in_err-outcome-clause-events : goal.returns-in_err-outcome-clause-events
returns-in_err-outcome-clause-events g c rows f pieces = IfOk-from_err _ _ c.from_residual-in_err-outcome.ensures.0
