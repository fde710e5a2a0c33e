use Rattle.annotated_trace.proofs.ClosingLemmas.{closing_said, failed_said, first_said}
use Rattle.annotated_trace.proofs.annotation.AnnotationPrinter.close.Goals as goal

pub returns-clause-ok : goal.returns-clause-ok
returns-clause-ok g c text printed reported =
    let page = c.close.new.page in
    closing_said c.finish.result.1 g.S.LentSink.before (g.S.Sink.taken page.sink, g.S.Sink.failures page.sink) page.buffer page.said (g.S.Sink.taken c.finish.result.0) page.represented c.finish.ensures.ok

pub returns-clause-part : goal.returns-clause-part
returns-clause-part g c text printed reported =
    let page = c.close.new.page in
    first_said c.finish.result.1 g.S.LentSink.before (g.S.Sink.taken page.sink, g.S.Sink.failures page.sink) page.buffer page.said (g.S.Sink.taken c.finish.result.0) page.represented c.finish.ensures.part

pub returns-clause-cause : goal.returns-clause-cause
returns-clause-cause g c =
    let page = c.close.new.page in
    failed_said c.finish.result.1 g.S.LentSink.before (g.S.Sink.taken page.sink, g.S.Sink.failures page.sink) page.buffer page.said g.S.LentSink.before.1 (g.S.Sink.failures c.finish.result.0) page.represented c.finish.ensures.cause
