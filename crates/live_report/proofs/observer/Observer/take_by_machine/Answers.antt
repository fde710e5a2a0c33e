use Rattle.std.proofs.Common.{◌∙◌, arith, ap, subst, sym, length, map}
use Rattle.std.proofs.lemmas.Result.{IfOk-from_err}
use Rattle.line_model.specs.pieces.Plans.{result_of}
use Rattle.line_model.proofs.Posts.{length-values}
use Rattle.restart_epochs.specs.Cutting.{given_of}
use Rattle.restart_epochs.specs.Walks.{HasRoom, IsAdvanced}
use Rattle.live_report.specs.OpenChannels.{OpenChannelsFor}
use Rattle.live_report.specs.Effects.{epoch_of}
use Rattle.live_report.proofs.TakeLemmas.{rows_after, said_here}
use Rattle.live_report.proofs.WalkLemmas.{finds_next, rows_next, represents_here, effects_here, walks_on}
use Rattle.live_report.proofs.observer.Observer.take_by_machine.Goals as goal

pub step-requires : goal.step-requires
step-requires g c =
    let s = c.requires.room.2 in
    record { epochs = omega (arith, s.holds.epoch, s.bounds.epochs, s.bounds.rows, s.bounds.last) }

pub apply-requires-clause-room : goal.apply-requires-clause-room
apply-requires-clause-room g c =
    let room = c.requires.room in
    let s = room.2 in
    let o = c.args.self.now in
    let one = c.args.item.now in
    let same = c.in_ok-step.ensures.same in (
      s.cutting.open_rows,
      map result_of (given_of room.0 room.1),
      represents_here g.C.Channel room.0 room.1 o c.step.new.self s same,
      s.holds.ended,
      effects_here g.C.Channel room.0 room.1 o one c.in_ok-step.step c.step.new.self s room.3 c.in_ok-step.ensures.step same,
    )

pub apply-requires-clause-pieces : goal.apply-requires-clause-pieces
apply-requires-clause-pieces g c =
    let s = c.requires.room.2 in
    let pieces = ap (λ e. e.pieces) s.holds.ended ∙ length-values (given_of c.requires.room.0 c.requires.room.1) ∙ sym s.cut.given in
    let channels = ap (λ l. length l) s.holds.open_channels.channels in
    omega (arith, pieces, channels, s.bounds.ids, s.bounds.rows, s.bounds.last)

pub advance-requires-clause-gaps : goal.advance-requires-clause-gaps
advance-requires-clause-gaps g c =
    let s = c.requires.room.2 in
    omega (arith, ap (λ o. o.walk.gaps) c.in_ok-keep.ensures.rest, c.in_ok-step.ensures.same.gaps, s.holds.gaps, s.bounds.gaps, s.bounds.rows, s.bounds.last)

pub advance-requires-clause-packets : goal.advance-requires-clause-packets
advance-requires-clause-packets g c =
    let s = c.requires.room.2 in
    omega (arith, ap (λ o. o.walk.packets) c.in_ok-keep.ensures.rest, c.in_ok-step.ensures.same.packets, s.holds.packets, s.bounds.rows, s.bounds.last)

pub advance-requires-clause-room : goal.advance-requires-clause-room
advance-requires-clause-room g c = subst (λ w. HasRoom w c.in_ok-step.step) (sym (ap (λ o. o.walk) c.in_ok-keep.ensures.rest)) c.in_ok-step.ensures.room

pub returns-clause-represented : goal.returns-clause-represented
returns-clause-represented g c i rs s sound =
    let o = c.args.self.now in
    let v = c.step.new.self in
    let step = c.in_ok-step.step in
    let one = c.args.item.now in
    let same = c.in_ok-step.ensures.same in
    let is = c.in_ok-step.ensures.step in
    let rows = s.cutting.open_rows in
    let here = represents_here g.C.Channel i rs o v s same in
    let rows_then = rows_after step.effect one s.cutting.gap rows in
    let may = effects_here g.C.Channel i rs o one step v s sound is same in
    let affected = rows_next g.C.Channel i rs o one step s in
    let rest = c.in_ok-keep.ensures.rest in
    walks_on g.C.Channel i rs o _ one step v c.in_ok-judged.judged c.apply.new.events.items s sound is same
    (subst (λ w. IsAdvanced step w c.advance.new.self) (ap (λ k. k.walk) rest) c.advance.ensures)
    (ap (λ k. k.ended) rest ∙ c.in_ok-judged.ensures.ended rows here (map result_of (given_of i rs)) s.holds.ended)
    (ap (λ k. k.open_channels.gap) rest ∙ c.in_ok-judged.ensures.gap)
    (subst (OpenChannelsFor g.C.Channel.interface_of g.C.Channel.number_of g.C.Channel.represents (epoch_of v) rows_then) (sym (ap (λ k. k.open_channels.table) rest)) (c.in_ok-judged.ensures.open_channels rows here rows_then may affected))
    (c.in_ok-judged.ensures.judge rows here rows_then may affected) (c.in_ok-judged.ensures.finding rows here) (c.in_ok-judged.ensures.events rows here)
    (λ keeps. c.in_ok-keep.ensures.last (sym (ap (λ k. k.keeps_rows) rest) ∙ keeps))
    (λ keeps. c.in_ok-keep.ensures.events (sym (ap (λ k. k.keeps_rows) rest) ∙ keeps))
    (λ known few. c.in_ok-keep.ensures.uncounted i v.epoch rs known (same.interface ∙ s.holds.interface ∙ s.cut.interface) few s.uncounted)

pub returns-clause-finding : goal.returns-clause-finding
returns-clause-finding g c i rs s =
    let o = c.args.self.now in
    let v = c.step.new.self in
    let one = c.args.item.now in
    let same = c.in_ok-step.ensures.same in
    let packet = said_here g.C.Channel.interface_of g.C.Channel.number_of g.C.Channel.represents c.requires.room.0 c.requires.room.1 o one s.cutting.interface c.requires.room.2 c.requires.room.3 s.holds.interface in
    finds_next g.C.Channel i rs o one c.in_ok-step.step v c.in_ok-judged.judged s packet c.in_ok-step.ensures.step same (c.in_ok-judged.ensures.finding s.cutting.open_rows (represents_here g.C.Channel i rs o v s same))

pub returns-in_err-step-clause-represented : goal.returns-in_err-step-clause-represented
returns-in_err-step-clause-represented g c i rs s sound = IfOk-from_err _ _ c.from_residual.ensures.0

pub returns-in_err-step-clause-finding : goal.returns-in_err-step-clause-finding
returns-in_err-step-clause-finding g c i rs s = IfOk-from_err _ _ c.from_residual.ensures.0

pub returns-in_err-judged-clause-represented : goal.returns-in_err-judged-clause-represented
returns-in_err-judged-clause-represented g c i rs s sound = IfOk-from_err _ _ c.from_residual-in_err-judged.ensures.0

pub returns-in_err-judged-clause-finding : goal.returns-in_err-judged-clause-finding
returns-in_err-judged-clause-finding g c i rs s = IfOk-from_err _ _ c.from_residual-in_err-judged.ensures.0

pub returns-in_err-keep-clause-represented : goal.returns-in_err-keep-clause-represented
returns-in_err-keep-clause-represented g c i rs s sound = IfOk-from_err _ _ c.from_residual-in_err-keep.ensures.0

pub returns-in_err-keep-clause-finding : goal.returns-in_err-keep-clause-finding
returns-in_err-keep-clause-finding g c i rs s = IfOk-from_err _ _ c.from_residual-in_err-keep.ensures.0
