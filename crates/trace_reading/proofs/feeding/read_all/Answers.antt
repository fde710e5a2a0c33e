use Rattle.std.proofs.Common.{◌∙◌, ◌≡◌, ◌+◌, ◌<◌, ◌≤◌, ◌^◌, ℕ, List, [], Some, Err, ap, length, subst, sym}
use Rattle.std.specs.Prelude.{IfErr, IfOk}
use Rattle.std.proofs.lemmas.Result.{IfErr-weaker, IfOk-weaker}
use Rattle.trace_reading.specs.Readings.{IsFaultWithin, IsReadOf, lag_of}
use Rattle.trace_reading.proofs.Courses.{all_taken, end_stopped, fed_on, has_read, nothing_fed, plan_expected, plan_whole, stop_fed, stop_held, stop_read, shown_taken, whole_taken}
use Rattle.trace_reading.proofs.Parts.{fed_both, taken_length}
use Rattle.trace_reading.proofs.feeding.read_all.Goals as goal
use Rattle.trace_text.specs.Refusals.{IsRefusal}
use Rattle.trace_text.proofs.Refused.{at_end}

pub read_text-requires-clause-nothing : goal.read_text-requires-clause-nothing
read_text-requires-clause-nothing g c = nothing_fed g.P.TraceText.text c.args.fed.taken.work.now.queue c.args.pass.now c.args.fed.taken.sent c.args.fed.room.items c.args.fed.taken.text c.requires.begun.0 c.requires.begun.1 c.requires.first.0 c.requires.first.1 c.requires.none c.requires.queue

pub read_text-requires-clause-expected : goal.read_text-requires-clause-expected
read_text-requires-clause-expected g c = plan_expected g.P.Plan.pieces g.P.TraceText.text (g.S.Source.left c.args.source.now) c.requires.text c.requires.plan

-- ---- the source has ended

pub take_room-requires-clause-held : goal.take_room-requires-clause-held
take_room-requires-clause-held g c = c.in-Ok.ensures.whole.fed.held

pub returns-in-Err-take_room-clause-read : goal.returns-in-Err-take_room-clause-read
returns-in-Err-take_room-clause-read g c =
    let w = c.in-Ok.ensures.whole in
    let refused = c.in-Err-take_room.fault in
    let within = subst (λ n. IsFaultWithin g.P.TraceText.text n refused) (sym w.fed.size) c.in-Err-take_room.ensures.refused in
    rw (c.keep_line.ensures.left, c.keep_line.ensures.before, c.keep_line.ensures.failures) (has_read g.P.TraceText.text (g.S.Source.left c.args.source.now) (g.S.Source.left c.read_text.new.source) (g.S.Source.before c.read_text.new.source) _ _ c.take_room.new.pass.pieces (Err refused) c.requires.text w (λ all e. tt) tt
    (λ all e. end_stopped g.P.TraceText.text _ _ _ _ refused all c.requires.text w within e) within.kinds)

pub finish-requires-clause-ready : goal.finish-requires-clause-ready
finish-requires-clause-ready g c =
    let w = c.in-Ok.ensures.whole in
    let so = c.in_default.ensures.held.cut in
    let size : length so.taken ≡ length w.text = sym (taken_length so.taken _ so.cut.taken) ∙ c.in_default.ensures.all ∙ c.in_default.ensures.sent ∙ sym w.fed.size in (
      so.taken,
      so.cut,
      plan_whole g.P.Plan.pieces g.P.TraceText.text so.taken c.requires.plan (whole_taken g.P.TraceText.text (g.S.Source.left c.args.source.now) _ _ w.text so.taken c.requires.text w.source (all_taken g.P.TraceText.text w.text so.taken w.fed.begins so.begins size)),
    )

pub returns-in_default-clause-read : goal.returns-in_default-clause-read
returns-in_default-clause-read g c =
    let w = c.in-Ok.ensures.whole in
    let so = c.in_default.ensures.held.cut in
    let size : length so.taken ≡ length w.text = sym (taken_length so.taken _ so.cut.taken) ∙ c.in_default.ensures.all ∙ c.in_default.ensures.sent ∙ sym w.fed.size in
    let is = all_taken g.P.TraceText.text w.text so.taken w.fed.begins so.begins size in
    let shown : (all : List ℕ) → g.S.Source.left c.args.source.now ≡ Some all → so.taken ≡ w.text = λ all e. shown_taken g.P.TraceText.text (g.S.Source.left c.args.source.now) w.text so.taken all c.requires.text is e in
    rw (c.keep_line-in-Ok.ensures.left, c.keep_line-in-Ok.ensures.before, c.keep_line-in-Ok.ensures.failures) (has_read g.P.TraceText.text (g.S.Source.left c.args.source.now) (g.S.Source.left c.read_text.new.source) (g.S.Source.before c.read_text.new.source) _ _ c.finish.new.pass.pieces c.finish.result c.requires.text w
    (λ all e. subst (λ t. IfOk c.finish.result (IsReadOf t c.finish.new.pass.pieces)) (shown all e) (c.finish.ensures.read so.taken so.cut))
    (IfOk-weaker c.finish.result _ _ (λ read h. (so.taken, h)) (c.finish.ensures.read so.taken so.cut))
    (λ all e. subst (λ t. IfErr c.finish.result (IsRefusal (lag_of g.P.TraceText.text) t [])) (shown all e) (IfErr-weaker c.finish.result _ _ (λ f h. at_end (lag_of g.P.TraceText.text) so.taken f so.cut.taken.reads.sound h) (c.finish.ensures.refused so.taken so.cut)))
    c.finish.ensures.kinds)

-- ---- reading has stopped

pub last_fault-last-requires-clause-held : goal.last_fault-last-requires-clause-held
last_fault-last-requires-clause-held g c = let u = c.in-Err.ensures.stopped in stop_held g.P.TraceText.text _ _ _ _ _ _ u.fed u.last c.in-Err.fault u.why

pub returns-in-Err-clause-read : goal.returns-in-Err-clause-read
returns-in-Err-clause-read g c =
    rw (c.keep_line-in-Err.ensures.left, c.keep_line-in-Err.ensures.before, c.keep_line-in-Err.ensures.failures) (stop_read g.P.TraceText.text (g.S.Source.left c.args.source.now) (g.S.Source.left c.read_text.new.source) (g.S.Source.before c.read_text.new.source) _ _ _ _ _ _ _ c.last_fault-last.new.pass.pieces c.in-Err.fault c.last_fault-last.result c.requires.text c.in-Err.ensures.stopped
    c.last_fault-last.ensures.other c.last_fault-last.ensures.read (λ e. c.in-Err.ensures.read_failed (ap (λ f. Err f) e)))

pub returns-in-Err-clause-kept : goal.returns-in-Err-clause-kept
returns-in-Err-clause-kept g c = let u = c.in-Err.ensures.stopped in (c.last_fault-last.ensures.fed c.args.pass.now (stop_fed g.P.TraceText.text _ _ _ _ _ _ u.fed u.last c.in-Err.fault u.why)).kept

pub returns-in-Err-clause-queue : goal.returns-in-Err-clause-queue
returns-in-Err-clause-queue g c = let u = c.in-Err.ensures.stopped in (c.last_fault-last.ensures.fed c.args.pass.now (stop_fed g.P.TraceText.text _ _ _ _ _ _ u.fed u.last c.in-Err.fault u.why)).same

pub returns-in-Err-take_room-clause-called : goal.returns-in-Err-take_room-clause-called
returns-in-Err-take_room-clause-called g c = subst (λ n. g.S.Source.calls c.args.source.now < n) (sym c.keep_line.ensures.calls) c.read_text.ensures.called

pub returns-in-Err-take_room-clause-asked : goal.returns-in-Err-take_room-clause-asked
returns-in-Err-take_room-clause-asked g c = subst (λ n. n ≤ g.S.Source.calls c.args.source.now + (2 ^ 30 + 1)) (sym c.keep_line.ensures.calls) c.read_text.ensures.asked

pub returns-in_default-clause-called : goal.returns-in_default-clause-called
returns-in_default-clause-called g c = subst (λ n. g.S.Source.calls c.args.source.now < n) (sym c.keep_line-in-Ok.ensures.calls) c.read_text.ensures.called

pub returns-in_default-clause-asked : goal.returns-in_default-clause-asked
returns-in_default-clause-asked g c = subst (λ n. n ≤ g.S.Source.calls c.args.source.now + (2 ^ 30 + 1)) (sym c.keep_line-in-Ok.ensures.calls) c.read_text.ensures.asked

pub returns-in-Err-clause-called : goal.returns-in-Err-clause-called
returns-in-Err-clause-called g c = subst (λ n. g.S.Source.calls c.args.source.now < n) (sym c.keep_line-in-Err.ensures.calls) c.read_text.ensures.called

pub returns-in-Err-clause-asked : goal.returns-in-Err-clause-asked
returns-in-Err-clause-asked g c = subst (λ n. n ≤ g.S.Source.calls c.args.source.now + (2 ^ 30 + 1)) (sym c.keep_line-in-Err.ensures.calls) c.read_text.ensures.asked

pub returns-in-Err-take_room-clause-kept : goal.returns-in-Err-take_room-clause-kept
returns-in-Err-take_room-clause-kept g c = (fed_both c.args.pass.now c.read_text.new.pass c.take_room.new.pass c.in-Ok.ensures.whole.fed.fed c.take_room.ensures.fed).kept

pub returns-in-Err-take_room-clause-queue : goal.returns-in-Err-take_room-clause-queue
returns-in-Err-take_room-clause-queue g c = (fed_both c.args.pass.now c.read_text.new.pass c.take_room.new.pass c.in-Ok.ensures.whole.fed.fed c.take_room.ensures.fed).same

pub returns-in_default-clause-kept : goal.returns-in_default-clause-kept
returns-in_default-clause-kept g c = fed_on c.args.pass.now.record_of c.take_room.new.pass.record_of c.finish.new.pass.record_of (fed_both c.args.pass.now c.read_text.new.pass c.take_room.new.pass c.in-Ok.ensures.whole.fed.fed c.take_room.ensures.fed).kept c.finish.ensures.kept

pub returns-in_default-clause-queue : goal.returns-in_default-clause-queue
returns-in_default-clause-queue g c = c.finish.ensures.queue ∙ (fed_both c.args.pass.now c.read_text.new.pass c.take_room.new.pass c.in-Ok.ensures.whole.fed.fed c.take_room.ensures.fed).same

pub finish-requires-clause-queue : goal.finish-requires-clause-queue
finish-requires-clause-queue g c = c.in_default.ensures.held.cut.queue_is

pub finish-requires-clause-open : goal.finish-requires-clause-open
finish-requires-clause-open g c = c.in_default.ensures.held.cut.no_ends
