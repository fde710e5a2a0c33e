use Rattle.std.proofs.Common.{Err, ◌∙◌, ◌+◌, ℕ, List, ap, append_assoc, length-append, sym, subst, refl, length, take, [], ◌∷◌, ◌++◌, arith}
use Rattle.line_model.specs.declared.fault.Fault.{Fault}
use Rattle.line_model.specs.declared.fault.Fault.TheVariants.{Write}
use Rattle.trace_text.proofs.SourceLemmas.{passed_on, same_fault as passed_same}
use Rattle.line_model.specs.text.Text.{early}
use Rattle.annotated_trace.specs.Printers.{HasFollowed, IsPrinterFault, IsRefusalOf, PrintOf, WasFed}
use Rattle.annotated_trace.proofs.CommentLemmas.{always}
use Rattle.annotated_trace.proofs.PassedLemmas.{line_end, line_passed, line_refusal, line_stopped, much_stopped, nothing_passed, rest_printed, rest_refusal, rest_stopped}
use Rattle.annotated_trace.proofs.StopLemmas.{no_write, text_kind}
use Rattle.annotated_trace.proofs.printing.TracePrinter.take_lines.Goals as goal
use Rattle.line_model.proofs.DeviceLemmas.{with_more-nil}
use Rattle.trace_text.proofs.FeedLemmas.{on_err, on_ok}

pub returns-in_err-take_line-clause-refused : goal.returns-in_err-take_line-clause-refused
returns-in_err-take_line-clause-refused g c choice text s =
    let p = c.loop-front.invariant.passed choice [] in
    let front = c.in-Some.front.now in
    let rest = c.loop-front.rest.now in
    let end = line_end front c.in-Some.back.now rest c.in-Some.ensures.0 in
    passed_on c.from_residual.result c.in_err-take_line.field-0.0 _ c.from_residual.ensures.1
    (line_refusal (HasFollowed g.O.TraceObserver g.P.Printer choice) (PrintOf g.P.Printer choice []) c.args.self.now c.loop-front.self (g.K.Sink.taken c.args.sink.now) (g.K.Sink.taken c.loop-front.sink) c.args.chunk.now rest front c.in-Some.back.now (take (length front + 1) rest) text c.in_err-take_line.field-0.0 p c.in-Some.ensures.0 end
    (c.in_err-take_line.ensures.refused choice (text ++ p.fed) (p.represented text s)))

pub returns-in_err-take_line-clause-stopped : goal.returns-in_err-take_line-clause-stopped
returns-in_err-take_line-clause-stopped g c choice gone text before s h =
    let p = c.loop-front.invariant.passed choice gone in
    let front = c.in-Some.front.now in
    let rest = c.loop-front.rest.now in
    let end = line_end front c.in-Some.back.now rest c.in-Some.ensures.0 in
    let represented = p.represented text s in
    passed_on c.from_residual.result c.in_err-take_line.field-0.0 _ c.from_residual.ensures.1
    (line_stopped (HasFollowed g.O.TraceObserver g.P.Printer choice) (PrintOf g.P.Printer choice gone) c.args.self.now c.loop-front.self (g.K.Sink.taken c.args.sink.now) (g.K.Sink.taken c.loop-front.sink) before c.args.chunk.now rest front c.in-Some.back.now (take (length front + 1) rest) text c.take_line.new.self.held.items
    c.in_err-take_line.field-0.0 p c.in-Some.ensures.0 end c.in-Some.ensures.1 s (g.met.O.TraceObserver.sound c.loop-front.self.trace (text ++ p.fed) represented.trace.0) h (c.in_err-take_line.ensures.refused choice (text ++ p.fed) represented) c.in_err-take_line.ensures.not_held)

pub loop-front-preserved : goal.loop-front-preserved
loop-front-preserved g c =
    let front = c.in-Some.front.now in
    let rest = c.loop-front.rest.now in
    let end = line_end front c.in-Some.back.now rest c.in-Some.ensures.0 in
    let put = c.in_ok-send_much.ensures.ok in
    record {
      passed = λ choice gone. line_passed (HasFollowed g.O.TraceObserver g.P.Printer choice) (PrintOf g.P.Printer choice gone) c.args.self.now c.loop-front.self c.take_line.new.self (record c.take_line.new.self { held = c.send_much.new.held }) (g.K.Sink.taken c.args.sink.now) (g.K.Sink.taken c.loop-front.sink)
          (g.K.Sink.taken c.send_much.new.sink) c.args.chunk.now rest front c.in-Some.back.now (take (length front + 1) rest) put.0 (c.loop-front.invariant.passed choice gone) c.in-Some.ensures.0 end c.in-Some.ensures.1 (c.in_ok-take_line.ensures.fed choice) (c.in_ok-take_line.ensures.held choice gone) refl refl refl
          put.1 put.2;
      rising = omega (arith, c.loop-front.invariant.rising, c.in_ok-send_much.ensures.rising);
    }

pub returns-in_err-send_much-clause-stopped : goal.returns-in_err-send_much-clause-stopped
returns-in_err-send_much-clause-stopped g c choice gone text before s h =
    let p = c.loop-front.invariant.passed choice gone in
    let front = c.in-Some.front.now in
    let rest = c.loop-front.rest.now in
    let end = line_end front c.in-Some.back.now rest c.in-Some.ensures.0 in
    let taken = g.K.Sink.taken c.loop-front.sink in
    let q = line_passed (HasFollowed g.O.TraceObserver g.P.Printer choice) (PrintOf g.P.Printer choice gone) c.args.self.now c.loop-front.self c.take_line.new.self c.take_line.new.self (g.K.Sink.taken c.args.sink.now) taken taken c.args.chunk.now rest front c.in-Some.back.now (take (length front + 1) rest) [] p c.in-Some.ensures.0
    end c.in-Some.ensures.1 (c.in_ok-take_line.ensures.fed choice) (c.in_ok-take_line.ensures.held choice gone) refl refl refl (sym (with_more-nil taken)) refl in
    let part = c.in_err-send_much.ensures.part in
    passed_on c.from_residual-in_err-send_much.result c.in_err-send_much.field-0.0 _ c.from_residual-in_err-send_much.ensures.1
    (much_stopped (HasFollowed g.O.TraceObserver g.P.Printer choice) (PrintOf g.P.Printer choice gone) c.args.self.now c.take_line.new.self (g.K.Sink.taken c.args.sink.now) taken (g.K.Sink.taken c.send_much.new.sink) before c.args.chunk.now c.in-Some.back.now text c.send_much.new.held.items part.0 part.1
    c.in_err-send_much.field-0.0 q s h part.2 part.3 c.in_err-send_much.ensures.write)

pub returns-clause-printed : goal.returns-clause-printed
returns-clause-printed g c choice gone text before s h =
    always c.begin.result _ (rest_printed (HasFollowed g.O.TraceObserver g.P.Printer choice) (PrintOf g.P.Printer choice gone) c.args.self.now c.loop-front.self (g.K.Sink.taken c.args.sink.now) (g.K.Sink.taken c.loop-front.sink) before c.args.chunk.now c.loop-front.rest.now text c.begin.new.self.held.items
    (c.loop-front.invariant.passed choice gone) c.in_default.ensures s h c.begin.ensures.held)

pub returns-clause-stopped : goal.returns-clause-stopped
returns-clause-stopped g c choice gone text before s h =
    let p = c.loop-front.invariant.passed choice gone in
    let represented = p.represented text s in
    on_err c.begin.result _ _ (c.begin.ensures.refused choice (text ++ p.fed) represented) (λ f fault.
    rest_stopped (HasFollowed g.O.TraceObserver g.P.Printer choice) (PrintOf g.P.Printer choice gone) c.args.self.now c.loop-front.self (g.K.Sink.taken c.args.sink.now) (g.K.Sink.taken c.loop-front.sink) before c.args.chunk.now c.loop-front.rest.now text c.begin.new.self.held.items f p c.in_default.ensures s
    (g.met.O.TraceObserver.sound c.loop-front.self.trace (text ++ p.fed) represented.trace.0) h c.begin.ensures.held fault)

pub returns-in_err-take_line-clause-kinds : goal.returns-in_err-take_line-clause-kinds
returns-in_err-take_line-clause-kinds g c = passed_on c.from_residual.result c.in_err-take_line.field-0.0 _ c.from_residual.ensures.1 (text_kind c.in_err-take_line.field-0.0 c.in_err-take_line.ensures.kinds)

pub returns-in_err-take_line-clause-write_failed : goal.returns-in_err-take_line-clause-write_failed
returns-in_err-take_line-clause-write_failed g c w = absurd (no_write {T = Fault} c.in_err-take_line.field-0.0 c.in_err-take_line.ensures.kinds (ap (λ f. Err f) (passed_same c.from_residual.result c.in_err-take_line.field-0.0 Write c.from_residual.ensures.1 w)))

pub returns-in_err-send_much-clause-rising : goal.returns-in_err-send_much-clause-rising
returns-in_err-send_much-clause-rising g c = omega (arith, c.loop-front.invariant.rising, c.send_much.ensures.rising)

pub returns-in_err-send_much-clause-kinds : goal.returns-in_err-send_much-clause-kinds
returns-in_err-send_much-clause-kinds g c = passed_on c.from_residual-in_err-send_much.result c.in_err-send_much.field-0.0 _ c.from_residual-in_err-send_much.ensures.1 (subst IsPrinterFault (sym c.in_err-send_much.ensures.write) tt)

pub returns-in_err-send_much-clause-refused : goal.returns-in_err-send_much-clause-refused
returns-in_err-send_much-clause-refused g c choice text s = passed_on c.from_residual-in_err-send_much.result c.in_err-send_much.field-0.0 _ c.from_residual-in_err-send_much.ensures.1 (subst (IsRefusalOf (early (text ++ c.args.chunk.now))) (sym c.in_err-send_much.ensures.write) tt)

pub loop-front-init : goal.loop-front-init
loop-front-init g c = record { passed = λ choice gone. nothing_passed (HasFollowed g.O.TraceObserver g.P.Printer choice) (PrintOf g.P.Printer choice gone) c.args.self.now (g.K.Sink.taken c.args.sink.now) c.args.chunk.now; rising = omega arith }

pub loop-front-smaller : goal.loop-front-smaller
loop-front-smaller g c = omega (arith, ap (λ (l : List ℕ). length l) c.in-Some.ensures.0, length-append c.in-Some.front.now (10 ∷ c.in-Some.back.now))

pub take_line-requires : goal.take_line-requires
take_line-requires g c =
    let p = c.loop-front.invariant.passed c.requires.0 [] in
    (c.requires.0, c.requires.1 ++ p.fed, p.represented c.requires.1 c.requires.2)

pub begin-requires : goal.begin-requires
begin-requires g c =
    let p = c.loop-front.invariant.passed c.requires.0 [] in
    (c.requires.0, c.requires.1 ++ p.fed, p.represented c.requires.1 c.requires.2)

pub returns-clause-fed : goal.returns-clause-fed
returns-clause-fed g c choice text s =
    let p = c.loop-front.invariant.passed choice [] in
    on_ok c.begin.result _ _ (c.begin.ensures.fed choice (text ++ p.fed) (p.represented text s) c.in_default.ensures)
    (λ h. subst (WasFed (HasFollowed g.O.TraceObserver g.P.Printer choice) c.begin.new.self) (append_assoc text p.fed c.loop-front.rest.now ∙ ap (λ xs. text ++ xs) (sym p.whole)) h)

pub returns-clause-refused : goal.returns-clause-refused
returns-clause-refused g c choice text s =
    let p = c.loop-front.invariant.passed choice [] in
    on_err c.begin.result _ _ (c.begin.ensures.refused choice (text ++ p.fed) (p.represented text s))
    (λ f fault. rest_refusal (HasFollowed g.O.TraceObserver g.P.Printer choice) (PrintOf g.P.Printer choice []) c.args.self.now c.loop-front.self (g.K.Sink.taken c.args.sink.now) (g.K.Sink.taken c.loop-front.sink) c.args.chunk.now c.loop-front.rest.now text f p fault)

pub returns-clause-kinds : goal.returns-clause-kinds
returns-clause-kinds g c = on_err c.begin.result _ _ c.begin.ensures.kinds text_kind

pub returns-in_err-send_much-clause-write_failed : goal.returns-in_err-send_much-clause-write_failed
returns-in_err-send_much-clause-write_failed g c w = omega (arith, c.loop-front.invariant.rising, c.in_err-send_much.ensures.cause)
