use Rattle.std.proofs.Common.{Err, ◌∙◌, ◌++◌, ◌∷◌, [], List, ℕ, sym, ap, refl, length}
use Rattle.line_model.specs.declared.fault.Fault.{Fault}
use Rattle.line_model.specs.declared.fault.Fault.TheVariants.{Write}
use Rattle.trace_text.proofs.SourceLemmas.{passed_on, same_fault as passed_same}
use Rattle.line_model.specs.text.Text.{begun_line, ended_lines}
use Rattle.line_model.proofs.TextLemmas.{begun-lf}
use Rattle.annotated_trace.specs.Printers.{HasPrinted, PrintOf}
use Rattle.annotated_trace.proofs.EndOfText.{ended_printed, ended_refused, lf_refused, none_begun, same_fault, same_first, some_bytes, whole_refused}
use Rattle.annotated_trace.proofs.StopLemmas.{no_write, text_kind}
use Rattle.annotated_trace.proofs.printing.TracePrinter.end.Goals as goal

pub close-requires-2 : goal.close-requires-2
close-requires-2 g c =
    let x = c.requires.fed.1 in
    (c.requires.fed.0, x ++ 10 ∷ [], c.in_ok-take_line.ensures.fed c.requires.fed.0 x [] c.requires.fed.2 refl refl, begun-lf x)

pub returns-clause-printed : goal.returns-clause-printed
returns-clause-printed g c choice gone text before s h =
    let some = some_bytes c.args.self.begun.len (length (begun_line text)) (sym c.is_empty.ensures ∙ c.if-is_empty.false) (c.args.self.begun.ok.0 ∙ ap (λ (b : List ℕ). length b) s.begun) in
    let next = c.in_ok-take_line.ensures.fed choice text [] s refl refl in
    let held : HasPrinted (PrintOf g.P.Printer choice gone) before (g.K.Sink.taken c.args.sink.now) c.take_line.new.self.held.items (ended_lines (text ++ 10 ∷ [])) = record { sent = h.sent; taken_is = h.taken_is; lines = c.in_ok-take_line.ensures.held choice gone text [] h.sent s refl refl h.lines } in
    ended_printed (PrintOf g.P.Printer choice gone) (g.P.Printer.closing choice) text before (g.K.Sink.taken c.close-2.new.sink) c.close-2.result some (g.met.O.TraceObserver.sound c.args.self.trace text s.trace.0)
    (g.met.O.TraceObserver.sound c.take_line.new.self.trace (text ++ 10 ∷ []) next.trace.0) (c.close-2.ensures.printed choice gone (text ++ 10 ∷ []) before next (begun-lf text) held)

pub returns-clause-refused : goal.returns-clause-refused
returns-clause-refused g c choice text s =
    let some = some_bytes c.args.self.begun.len (length (begun_line text)) (sym c.is_empty.ensures ∙ c.if-is_empty.false) (c.args.self.begun.ok.0 ∙ ap (λ (b : List ℕ). length b) s.begun) in
    let next = c.in_ok-take_line.ensures.fed choice text [] s refl refl in
    ended_refused text c.close-2.result some (g.met.O.TraceObserver.sound c.args.self.trace text s.trace.0) (g.met.O.TraceObserver.sound c.take_line.new.self.trace (text ++ 10 ∷ []) next.trace.0) (c.close-2.ensures.refused choice (text ++ 10 ∷ []) next)

pub returns-clause-taken : goal.returns-clause-taken
returns-clause-taken g c choice gone text before s h w =
    let some = some_bytes c.args.self.begun.len (length (begun_line text)) (sym c.is_empty.ensures ∙ c.if-is_empty.false) (c.args.self.begun.ok.0 ∙ ap (λ (b : List ℕ). length b) s.begun) in
    let next = c.in_ok-take_line.ensures.fed choice text [] s refl refl in
    let held : HasPrinted (PrintOf g.P.Printer choice gone) before (g.K.Sink.taken c.args.sink.now) c.take_line.new.self.held.items (ended_lines (text ++ 10 ∷ [])) = record { sent = h.sent; taken_is = h.taken_is; lines = c.in_ok-take_line.ensures.held choice gone text [] h.sent s refl refl h.lines } in
    same_first (PrintOf g.P.Printer choice gone) (g.P.Printer.closing choice) text before (g.K.Sink.taken c.close-2.new.sink) some (same_fault text some (g.met.O.TraceObserver.sound c.args.self.trace text s.trace.0) (g.met.O.TraceObserver.sound c.take_line.new.self.trace (text ++ 10 ∷ []) next.trace.0))
    (c.close-2.ensures.taken choice gone (text ++ 10 ∷ []) before next (begun-lf text) held w)

pub returns-in_err-take_line-clause-refused : goal.returns-in_err-take_line-clause-refused
returns-in_err-take_line-clause-refused g c choice text s =
    let some = some_bytes c.args.self.begun.len (length (begun_line text)) (sym c.is_empty.ensures ∙ c.if-is_empty.false) (c.args.self.begun.ok.0 ∙ ap (λ (b : List ℕ). length b) s.begun) in
    passed_on c.from_residual.result c.in_err-take_line.field-0.0 _ c.from_residual.ensures.1
    (lf_refused text c.in_err-take_line.field-0.0 some (g.met.O.TraceObserver.sound c.args.self.trace text s.trace.0) (c.in_err-take_line.ensures.refused choice text s))

pub close-requires : goal.close-requires
close-requires g c =
    let x = c.requires.fed.1 in
    (c.requires.fed.0, x, c.requires.fed.2, none_begun c.args.self.begun.len c.args.self.begun.items x (sym c.is_empty.ensures ∙ c.if-is_empty.true) c.args.self.begun.ok.0 c.requires.fed.2.begun)

pub returns-then-is_empty-clause-printed : goal.returns-then-is_empty-clause-printed
returns-then-is_empty-clause-printed g c choice gone text before s h = c.close.ensures.printed choice gone text before s (none_begun c.args.self.begun.len c.args.self.begun.items text (sym c.is_empty.ensures ∙ c.if-is_empty.true) c.args.self.begun.ok.0 s.begun) h

pub returns-then-is_empty-clause-refused : goal.returns-then-is_empty-clause-refused
returns-then-is_empty-clause-refused g c choice text s = whole_refused text c.close.result (c.close.ensures.refused choice text s)

pub returns-then-is_empty-clause-taken : goal.returns-then-is_empty-clause-taken
returns-then-is_empty-clause-taken g c choice gone text before s h w = c.close.ensures.taken choice gone text before s (none_begun c.args.self.begun.len c.args.self.begun.items text (sym c.is_empty.ensures ∙ c.if-is_empty.true) c.args.self.begun.ok.0 s.begun) h w

pub returns-in_err-take_line-clause-taken : goal.returns-in_err-take_line-clause-taken
returns-in_err-take_line-clause-taken g c choice gone text before s h w = absurd (no_write {T = Fault} c.in_err-take_line.field-0.0 c.in_err-take_line.ensures.kinds (ap (λ f. Err f) (passed_same c.from_residual.result c.in_err-take_line.field-0.0 Write c.from_residual.ensures.1 w)))

pub returns-in_err-take_line-clause-not_written : goal.returns-in_err-take_line-clause-not_written
returns-in_err-take_line-clause-not_written g c = passed_on c.from_residual.result c.in_err-take_line.field-0.0 _ c.from_residual.ensures.1 (λ other. refl)

pub returns-in_err-take_line-clause-kinds : goal.returns-in_err-take_line-clause-kinds
returns-in_err-take_line-clause-kinds g c = passed_on c.from_residual.result c.in_err-take_line.field-0.0 _ c.from_residual.ensures.1 (text_kind c.in_err-take_line.field-0.0 c.in_err-take_line.ensures.kinds)

pub returns-in_err-take_line-clause-write_failed : goal.returns-in_err-take_line-clause-write_failed
returns-in_err-take_line-clause-write_failed g c w = absurd (no_write {T = Fault} c.in_err-take_line.field-0.0 c.in_err-take_line.ensures.kinds (ap (λ f. Err f) (passed_same c.from_residual.result c.in_err-take_line.field-0.0 Write c.from_residual.ensures.1 w)))
