use Rattle.std.proofs.Common.{◌∙◌, ◌++◌, [], ap, append_assoc, subst, sym}
use Rattle.line_model.specs.text.Text.{begun_line, ended_lines}
use Rattle.trace_text.specs.ObserverAnswers.{found_in}
use Rattle.annotated_trace.specs.Printed.{HasAppended, IsPrintOf}
use Rattle.annotated_trace.proofs.PrintLemmas.{ended_by, line_printed, none_begun, whole_line}
use Rattle.annotated_trace.proofs.printing.TracePrinter.take_line.Goals as goal

pub returns-clause-fed : goal.returns-clause-fed
returns-clause-fed g c choice text front s k one =
    let end = c.args.end.now in
    let l = begun_line text ++ front in
    let lines = ended_by text front end k one in
    let read = c.in_default.ensures.represented text s.trace.0 in
    let found = sym (ap found_in lines) ∙ c.in_default.ensures.found text s.trace.0 in
    record {
      trace = (
        subst (λ w. g.O.TraceObserver.represents w (text ++ end)) (sym c.print_line.ensures.trace) read,
        subst (g.P.Printer.printed c.print_line.new.self.printer) (sym lines) (c.in_ok-print_line.ensures.printed (ended_lines text) l (text ++ end) s.trace.1 read lines found (whole_line text front end c.args.self.now.begun.items k s.begun)),
        c.print_line.ensures.rows ∙ s.trace.2,
      );
      begun = c.in_ok-print_line.ensures.begun ∙ sym (ap (λ e. begun_line (text ++ e)) k ∙ none_begun text front);
    }

pub returns-clause-held : goal.returns-clause-held
returns-clause-held g c choice gone text front sent s k one h =
    let end = c.args.end.now in
    let l = begun_line text ++ front in
    let lines = ended_by text front end k one in
    let found = sym (ap found_in lines) ∙ c.in_default.ensures.found text s.trace.0 in
    let put = c.in_ok-print_line.ensures.form (ended_lines text) l (text ++ end) s.trace.1 (c.in_default.ensures.represented text s.trace.0) lines found (whole_line text front end c.args.self.now.begun.items k s.begun) in
    let held = c.args.self.now.held.items in
    let now = c.print_line.new.self.held.items in
    subst (IsPrintOf (g.P.Printer.form choice) [] (ended_lines (text ++ end))) (append_assoc gone sent now)
    (line_printed (g.P.Printer.form choice) text front end (gone ++ sent) held now k one (subst (IsPrintOf (g.P.Printer.form choice) [] (ended_lines text)) (sym (append_assoc gone sent held)) h)
    (subst (λ r. HasAppended (g.P.Printer.form r (ended_lines text) l) held now) s.trace.2 put))
