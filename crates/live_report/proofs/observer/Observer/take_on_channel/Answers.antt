use Rattle.std.proofs.Common.{◌∙◌, ◌+◌, cond, is_some, arith, ap, subst, sym, append-nil, map}
use Rattle.std.proofs.lemmas.Result.{IfOk-from_err}
use Rattle.line_model.specs.basics.Bounds.{IsPiece}
use Rattle.line_model.specs.packets.Says.{gap_of}
use Rattle.line_model.specs.pieces.Plans.{result_of}
use Rattle.report_merge.specs.Gathered.{gathered}
use Rattle.restart_epochs.specs.Cutting.{given_of}
use Rattle.restart_epochs.specs.Walks.{IsAdvanced, step_to}
use Rattle.live_report.specs.OpenChannels.{OpenChannelsFor}
use Rattle.live_report.specs.Effects.{epoch_of}
use Rattle.live_report.proofs.TakeLemmas.{rows_after, said_here}
use Rattle.live_report.proofs.WalkLemmas.{counted_on, finds_next, rows_next, same_walk, represents_here, effects_here, walks_on}
use Rattle.live_report.proofs.observer.Observer.take_on_channel.Goals as goal

pub step-requires : goal.step-requires
step-requires g c =
    let room = c.requires.room in
    let s = room.2 in
    let o = c.args.self.now in
    let here = represents_here g.C.Channel room.0 room.1 o o.walk s (same_walk o.walk) in
    let may = effects_here g.C.Channel room.0 room.1 o c.args.item.now (step_to c.args.channel o.walk c.args.item.now) o.walk s room.3 c.requires.step (same_walk o.walk) in
    record { room = (s.cutting.open_rows, here.0, here.1, may) }

pub count_on_channel-requires-clause-packets : goal.count_on_channel-requires-clause-packets
count_on_channel-requires-clause-packets g c =
    let s = c.requires.room.2 in
    omega (arith, ap (λ o. o.walk.packets) c.in_ok-keep.ensures.rest, s.holds.packets, s.bounds.rows, s.bounds.last)

pub count_on_channel-requires-clause-gaps : goal.count_on_channel-requires-clause-gaps
count_on_channel-requires-clause-gaps g c =
    let s = c.requires.room.2 in
    omega (arith, ap (λ o. o.walk.gaps) c.in_ok-keep.ensures.rest, s.holds.gaps, s.bounds.gaps, s.bounds.rows, s.bounds.last)

pub returns-clause-represented : goal.returns-clause-represented
returns-clause-represented g c i rs s sound =
    let o = c.args.self.now in
    let one = c.args.item.now in
    let step = step_to c.args.channel o.walk one in
    let same = same_walk o.walk in
    let is = c.requires.step in
    let rows = s.cutting.open_rows in
    let here = represents_here g.C.Channel i rs o o.walk s same in
    let rows_then = rows_after step.effect one s.cutting.gap rows in
    let may = effects_here g.C.Channel i rs o one step o.walk s sound is same in
    let more = rows_next g.C.Channel i rs o one step s in
    let small = subst (IsPiece o.walk.interface c.args.channel) (sym more.row) may in
    let rest = c.in_ok-keep.ensures.rest in
    let counts = c.count_on_channel.ensures in
    walks_on g.C.Channel i rs o _ one step o.walk c.in_ok-outcome.outcome c.step.new.events.items s sound is same
    (subst (λ w. IsAdvanced (step_to c.args.channel o.walk one) o.walk w) (sym (ap (λ k. k.walk) counts)) (subst (λ w. IsAdvanced (step_to c.args.channel o.walk one) o.walk (record w { packets = w.packets + 1; gaps = w.gaps + cond (is_some (gap_of one.packet)) 1 0 })) (sym (ap (λ k. k.walk) rest)) (counted_on c.args.channel one o.walk)))
    (ap (λ k. k.ended) counts ∙ ap (λ k. k.ended) rest ∙ s.holds.ended ∙ ap gathered (sym (append-nil (map result_of (given_of i rs)))))
    (ap (λ k. k.open_channels.gap) counts ∙ ap (λ k. k.open_channels.gap) rest ∙ c.in_ok-outcome.ensures.gap)
    (subst (OpenChannelsFor g.C.Channel.interface_of g.C.Channel.number_of g.C.Channel.represents (epoch_of o.walk) rows_then) (sym (ap (λ k. k.open_channels.table) counts ∙ ap (λ k. k.open_channels.table) rest)) (c.in_ok-outcome.ensures.represented rows here.0 here.1 rows_then more small))
    (c.in_ok-outcome.ensures.judge rows here.0 here.1 rows_then more small) (c.in_ok-outcome.ensures.finding rows here.0 here.1) (c.in_ok-outcome.ensures.events rows here.0 here.1)
    (λ keeps. ap (λ k. k.last) counts ∙ c.in_ok-keep.ensures.last (sym (ap (λ k. k.keeps_rows) counts ∙ ap (λ k. k.keeps_rows) rest) ∙ keeps))
    (λ keeps. ap (λ k. k.events.items) counts ∙ c.in_ok-keep.ensures.events (sym (ap (λ k. k.keeps_rows) counts ∙ ap (λ k. k.keeps_rows) rest) ∙ keeps))
    (λ known few. ap (λ k. k.uncounted) counts ∙ c.in_ok-keep.ensures.uncounted i o.walk.epoch rs known (s.holds.interface ∙ s.cut.interface) few s.uncounted)

pub returns-clause-finding : goal.returns-clause-finding
returns-clause-finding g c i rs s =
    let o = c.args.self.now in
    let one = c.args.item.now in
    let same = same_walk o.walk in
    let here = represents_here g.C.Channel i rs o o.walk s same in
    let packet = said_here g.C.Channel.interface_of g.C.Channel.number_of g.C.Channel.represents c.requires.room.0 c.requires.room.1 o one s.cutting.interface c.requires.room.2 c.requires.room.3 s.holds.interface in
    finds_next g.C.Channel i rs o one (step_to c.args.channel o.walk one) o.walk c.in_ok-outcome.outcome s packet c.requires.step same (c.in_ok-outcome.ensures.finding s.cutting.open_rows here.0 here.1)

pub returns-in_err-outcome-clause-represented : goal.returns-in_err-outcome-clause-represented
returns-in_err-outcome-clause-represented g c i rs s sound = IfOk-from_err _ _ c.from_residual.ensures.0

pub returns-in_err-outcome-clause-finding : goal.returns-in_err-outcome-clause-finding
returns-in_err-outcome-clause-finding g c i rs s = IfOk-from_err _ _ c.from_residual.ensures.0

pub returns-in_err-keep-clause-represented : goal.returns-in_err-keep-clause-represented
returns-in_err-keep-clause-represented g c i rs s sound = IfOk-from_err _ _ c.from_residual-in_err-keep.ensures.0

pub returns-in_err-keep-clause-finding : goal.returns-in_err-keep-clause-finding
returns-in_err-keep-clause-finding g c i rs s = IfOk-from_err _ _ c.from_residual-in_err-keep.ensures.0
