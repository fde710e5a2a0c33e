use Rattle.std.proofs.Common.{◌∙◌, ◌++◌, ap, refl, sym}
use Rattle.std.proofs.lemmas.Result.{IfOk-from_err, IfOk-weaker, IfErr-weaker}
use Rattle.trace_text.proofs.SourceLemmas.{passed_on}
use Rattle.line_model.specs.packets.Says.{items_of}
use Rattle.line_model.specs.text.Text.{fault, rows}
use Rattle.trace_reading.proofs.Rows.{all_appended, all_fed}
use Rattle.trace_reading.proofs.Texts.{level_next, memory_fault, plan_is, read_of}
use Rattle.trace_reading.proofs.feeding.finish.Goals as goal

pub feed_pieces-requires-clause-next : goal.feed_pieces-requires-clause-next
feed_pieces-requires-clause-next g c =
    let text = c.requires.ready.0 in
    let fed = c.requires.ready.1 in
    level_next g.P.Plan.pieces text c.in_ok-row_cutter.row_cutter.interface c.end.new.pieces.items c.args.pass.now.record_of.fed (c.in_ok-row_cutter.ensures.sound text fed.taken).1 fed.count
    (all_appended c.new-pieces.result.items c.end.new.pieces.items _ _ c.new-pieces.ensures.items (c.in_ok-row_cutter.ensures.pieces text fed.taken)) c.requires.ready.2

pub feed_open_epoch-requires-clause-ready : goal.feed_open_epoch-requires-clause-ready
feed_open_epoch-requires-clause-ready g c =
    let text = c.requires.ready.0 in
    let fed = c.requires.ready.1 in
    let more = all_appended c.new-pieces.result.items c.end.new.pieces.items _ _ c.new-pieces.ensures.items (c.in_ok-row_cutter.ensures.pieces text fed.taken) in
    let header = (c.in_ok-row_cutter.ensures.sound text fed.taken).1 in (
      items_of c.in_ok-row_cutter.row_cutter.interface (rows text),
      c.in_ok-row_cutter.ensures.cut text fed.taken,
      all_fed _ _ _ _ c.end.new.pieces.items _ c.end.new.pieces.ok.0 fed.count more c.feed_pieces.ensures.fed,
      c.feed_pieces.ensures.pieces ∙ ap (λ ps. ps ++ c.end.new.pieces.items) fed.pieces ∙ sym more,
      plan_is g.P.Plan.pieces text c.in_ok-row_cutter.row_cutter.interface c.in_ok-row_cutter.row_cutter.interface (rows text) header refl refl c.requires.ready.2,
    )

pub returns-clause-read : goal.returns-clause-read
returns-clause-read g c text fed =
    let sound = c.in_ok-row_cutter.ensures.sound text fed.taken in
    let more = all_appended c.new-pieces.result.items c.end.new.pieces.items _ _ c.new-pieces.ensures.items (c.in_ok-row_cutter.ensures.pieces text fed.taken) in
    IfOk-weaker c.feed_open_epoch.result _ _ (λ read h. read_of text c.in_ok-row_cutter.row_cutter.interface c.in_ok-row_cutter.row_cutter.interface (rows text) c.feed_open_epoch.new.pass.pieces read sound.0 sound.1 refl refl h)
    (c.feed_open_epoch.ensures.cut (items_of c.in_ok-row_cutter.row_cutter.interface (rows text)) (c.in_ok-row_cutter.ensures.cut text fed.taken) (c.feed_pieces.ensures.pieces ∙ ap (λ ps. ps ++ c.end.new.pieces.items) fed.pieces ∙ sym more))

pub returns-clause-refused : goal.returns-clause-refused
returns-clause-refused g c text fed = IfErr-weaker c.feed_open_epoch.result _ _ (λ f h. memory_fault (fault text) f h) c.feed_open_epoch.ensures.memory

pub feed_pieces-requires-clause-queue : goal.feed_pieces-requires-clause-queue
feed_pieces-requires-clause-queue g c = c.requires.queue

pub feed_pieces-requires-clause-open : goal.feed_pieces-requires-clause-open
feed_pieces-requires-clause-open g c = c.requires.open

pub feed_open_epoch-requires-clause-queue : goal.feed_open_epoch-requires-clause-queue
feed_open_epoch-requires-clause-queue g c = c.feed_pieces.ensures.queue ∙ c.requires.queue

pub feed_open_epoch-requires-clause-open : goal.feed_open_epoch-requires-clause-open
feed_open_epoch-requires-clause-open g c = c.feed_pieces.ensures.kept.ends

pub returns-clause-queue : goal.returns-clause-queue
returns-clause-queue g c = c.feed_open_epoch.ensures.queue ∙ c.feed_pieces.ensures.queue

pub returns-clause-kept : goal.returns-clause-kept
returns-clause-kept g c =
    let first = c.feed_pieces.ensures.kept in
    let then = c.feed_open_epoch.ensures.kept in
    record { ends = then.ends; pending = then.pending ∙ first.pending; done = then.done ∙ first.done; taken = then.taken ∙ first.taken }

pub returns-in_err-row_cutter-clause-read : goal.returns-in_err-row_cutter-clause-read
returns-in_err-row_cutter-clause-read g c text fed = IfOk-from_err _ _ c.from_residual.ensures.0

pub returns-in_err-row_cutter-clause-refused : goal.returns-in_err-row_cutter-clause-refused
returns-in_err-row_cutter-clause-refused g c text fed = passed_on c.from_residual.result c.in_err-row_cutter.field-0.0 _ c.from_residual.ensures.1 (c.in_err-row_cutter.ensures.refused text fed.taken)

pub returns-in_err-row_cutter-clause-kinds : goal.returns-in_err-row_cutter-clause-kinds
returns-in_err-row_cutter-clause-kinds g c = passed_on c.from_residual.result c.in_err-row_cutter.field-0.0 _ c.from_residual.ensures.1 c.in_err-row_cutter.ensures.kinds
