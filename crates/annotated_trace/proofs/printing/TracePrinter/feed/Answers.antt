use Rattle.std.proofs.Common.{◌≡◌, ◌∙◌, arith, subst, sym, ◌++◌, true}
use Rattle.line_model.specs.text.Text.{early, ended_lines}
use Rattle.line_model.specs.declared.fault.Fault.TheVariants.{Write}
use Rattle.annotated_trace.specs.Printers.{HasPrintBefore, IsRefusalOf, PrintOf, is_line}
use Rattle.annotated_trace.proofs.CommentLemmas.{always, part_err}
use Rattle.annotated_trace.proofs.StopLemmas.{write_cause, write_kind}
use Rattle.annotated_trace.proofs.PassedLemmas.{all_first, line_first, line_part, line_sent, not_line, sent_all, sent_part, stopped_first}
use Rattle.annotated_trace.proofs.printing.TracePrinter.feed.Goals as goal
use Rattle.trace_text.proofs.FeedLemmas.{on_err, on_ok}

pub returns-then-not-is_line-clause-taken : goal.returns-then-not-is_line-clause-taken
returns-then-not-is_line-clause-taken g c choice gone text before s h =
    stopped_first (PrintOf g.P.Printer choice gone) before (g.K.Sink.taken c.take_lines.new.sink) c.take_lines.new.self.held.items (ended_lines (text ++ c.args.chunk.now)) c.in-Err.fault (c.in-Err.ensures.stopped choice gone text before s h)

pub returns-in-Ok-clause-printed : goal.returns-in-Ok-clause-printed
returns-in-Ok-clause-printed g c choice gone text before s h =
    on_ok c.send_held.result _ _ c.send_held.ensures.ok (λ t.
    sent_all (PrintOf g.P.Printer choice gone) before (g.K.Sink.taken c.take_lines.new.sink) (g.K.Sink.taken c.send_held.new.sink) c.take_lines.new.self.held.items (ended_lines (text ++ c.args.chunk.now)) (c.in-Ok.ensures.printed choice gone text before s h) t)

pub returns-in-Ok-clause-taken : goal.returns-in-Ok-clause-taken
returns-in-Ok-clause-taken g c choice gone text before s h =
    part_err c.send_held.result _ _ c.send_held.ensures.part (λ part.
    all_first (PrintOf g.P.Printer choice gone) before (g.K.Sink.taken c.send_held.new.sink) part.1 (ended_lines (text ++ c.args.chunk.now))
    (sent_part (PrintOf g.P.Printer choice gone) before (g.K.Sink.taken c.take_lines.new.sink) (g.K.Sink.taken c.send_held.new.sink) c.take_lines.new.self.held.items part.0 part.1 (ended_lines (text ++ c.args.chunk.now)) (c.in-Ok.ensures.printed choice gone text before s h)
    part.2 part.3))

pub returns-in-Ok-send_held-clause-taken : goal.returns-in-Ok-send_held-clause-taken
returns-in-Ok-send_held-clause-taken g c choice gone text before s h =
    let line : is_line c.in-Err.fault ≡ true = sym c.is_line.ensures ∙ c.if-not-is_line.false in
    line_first (PrintOf g.P.Printer choice gone) before (g.K.Sink.taken c.take_lines.new.sink) (g.K.Sink.taken c.send_held-in-Err.new.sink) c.take_lines.new.self.held.items (ended_lines (text ++ c.args.chunk.now)) c.in-Err.fault line (c.in-Err.ensures.stopped choice gone text before s h)
    c.in-Ok-send_held.ensures.ok

pub returns-in-Ok-send_held-clause-at_line : goal.returns-in-Ok-send_held-clause-at_line
returns-in-Ok-send_held-clause-at_line g c choice gone text before s h well =
    let line : is_line c.in-Err.fault ≡ true = sym c.is_line.ensures ∙ c.if-not-is_line.false in
    line_sent (PrintOf g.P.Printer choice gone) before (g.K.Sink.taken c.take_lines.new.sink) (g.K.Sink.taken c.send_held-in-Err.new.sink) c.take_lines.new.self.held.items (ended_lines (text ++ c.args.chunk.now)) c.in-Err.fault line (c.in-Err.ensures.stopped choice gone text before s h)
    c.in-Ok-send_held.ensures.ok

pub returns-in-Err-send_held-clause-taken : goal.returns-in-Err-send_held-clause-taken
returns-in-Err-send_held-clause-taken g c choice gone text before s h =
    let line : is_line c.in-Err.fault ≡ true = sym c.is_line.ensures ∙ c.if-not-is_line.false in
    let part = c.in-Err-send_held.ensures.part in
    line_part (PrintOf g.P.Printer choice gone) before (g.K.Sink.taken c.take_lines.new.sink) (g.K.Sink.taken c.send_held-in-Err.new.sink) c.take_lines.new.self.held.items part.0 part.1 (ended_lines (text ++ c.args.chunk.now)) c.in-Err.fault line
    (c.in-Err.ensures.stopped choice gone text before s h) part.2 part.3

pub returns-then-not-is_line-clause-at_line : goal.returns-then-not-is_line-clause-at_line
returns-then-not-is_line-clause-at_line g c choice gone text before s h well =
    not_line (PrintOf g.P.Printer choice gone) before (g.K.Sink.taken c.take_lines.new.sink) (ended_lines (text ++ c.args.chunk.now)) c.in-Err.fault (sym c.is_line.ensures ∙ c.if-not-is_line.true)

pub returns-then-not-is_line-clause-refused : goal.returns-then-not-is_line-clause-refused
returns-then-not-is_line-clause-refused g c choice text s = c.in-Err.ensures.refused choice text s

pub returns-then-not-is_line-clause-write_failed : goal.returns-then-not-is_line-clause-write_failed
returns-then-not-is_line-clause-write_failed g c w = c.take_lines.ensures.write_failed (c.in-Err.is ∙ w)

pub returns-in-Ok-clause-fed : goal.returns-in-Ok-clause-fed
returns-in-Ok-clause-fed g c choice text s =
    let next = c.in-Ok.ensures.fed choice text s in
    always c.send_held.result _ (record { trace = next.trace; begun = next.begun })

pub returns-in-Ok-clause-refused : goal.returns-in-Ok-clause-refused
returns-in-Ok-clause-refused g c choice text s =
    on_err c.send_held.result _ _ c.send_held.ensures.write (λ f w. subst (IsRefusalOf (early (text ++ c.args.chunk.now))) (sym w) tt)

pub returns-in-Ok-clause-at_line : goal.returns-in-Ok-clause-at_line
returns-in-Ok-clause-at_line g c choice gone text before s h well =
    on_err c.send_held.result _ _ c.send_held.ensures.write
    (λ f w. subst (HasPrintBefore (PrintOf g.P.Printer choice gone) before (g.K.Sink.taken c.send_held.new.sink) (ended_lines (text ++ c.args.chunk.now))) (sym w) tt)

pub returns-in-Ok-clause-kinds : goal.returns-in-Ok-clause-kinds
returns-in-Ok-clause-kinds g c = write_kind c.send_held.result c.send_held.ensures.write

pub returns-in-Ok-clause-rising : goal.returns-in-Ok-clause-rising
returns-in-Ok-clause-rising g c = omega (arith, c.take_lines.ensures.rising, c.send_held.ensures.rising)

pub returns-in-Ok-clause-write_failed : goal.returns-in-Ok-clause-write_failed
returns-in-Ok-clause-write_failed g c w =
    let failed = write_cause c.send_held.result Write _ c.send_held.ensures.cause w in
    omega (arith, c.take_lines.ensures.rising, failed)

pub returns-in-Ok-send_held-clause-rising : goal.returns-in-Ok-send_held-clause-rising
returns-in-Ok-send_held-clause-rising g c = omega (arith, c.take_lines.ensures.rising, c.send_held-in-Err.ensures.rising)

pub returns-in-Ok-send_held-clause-refused : goal.returns-in-Ok-send_held-clause-refused
returns-in-Ok-send_held-clause-refused g c choice text s = c.in-Err.ensures.refused choice text s

pub returns-in-Err-send_held-clause-refused : goal.returns-in-Err-send_held-clause-refused
returns-in-Err-send_held-clause-refused g c choice text s = c.in-Err.ensures.refused choice text s

pub returns-in-Err-send_held-clause-rising : goal.returns-in-Err-send_held-clause-rising
returns-in-Err-send_held-clause-rising g c = omega (arith, c.take_lines.ensures.rising, c.send_held-in-Err.ensures.rising)

pub returns-in-Err-send_held-clause-at_line : goal.returns-in-Err-send_held-clause-at_line
returns-in-Err-send_held-clause-at_line g c choice gone text before s h well =
    absurd (omega (arith, well, c.take_lines.ensures.rising, c.in-Err-send_held.ensures.cause))
