use Rattle.std.proofs.Common.{◌∙◌, ◌++◌, ap}
use Rattle.trace_text.proofs.FeedLemmas.{on_ok}
use Rattle.annotated_trace.proofs.AnnotationLemmas.{annotated_line}
use Rattle.annotated_trace.proofs.annotation.AnnotationPrinter.print.Goals as goal

pub returns-clause-form : goal.returns-clause-form
returns-clause-form g c before l text d s lines came e =
    let choice = g.D.Describer.rows c.args.self.now.describer in
    let found = g.O.TraceObserver.last_found c.args.trace.now in
    let mid = c.extend_from_slice.new.self.items in
    let after = c.append_comments.new.out.items in
    on_ok c.append_comments.result _ _ (c.append_comments.ensures.comments before l text d s lines)
    (annotated_line choice before l found c.args.out.now.items mid after came (c.in_ok-extend_from_slice.ensures.items ∙ ap (λ xs. c.args.out.now.items ++ xs) e))
