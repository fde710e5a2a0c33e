use Rattle.annotated_trace.proofs.PageLemmas.{all_noted}
use Rattle.annotated_trace.proofs.page.ClosingPage.finish.Goals as goal

pub returns-clause-ok : goal.returns-clause-ok
returns-clause-ok g c notes h = c.end-answer.ensures.ok g.S.LentSink.before _ (all_noted g.S.LentSink.before _ _ _ _ c.args.self.said notes h c.end.ensures)

pub returns-clause-part : goal.returns-clause-part
returns-clause-part g c notes h = c.end-answer.ensures.part g.S.LentSink.before _ (all_noted g.S.LentSink.before _ _ _ _ c.args.self.said notes h c.end.ensures)

pub returns-clause-cause : goal.returns-clause-cause
returns-clause-cause g c notes h = c.end-answer.ensures.cause g.S.LentSink.before _ (all_noted g.S.LentSink.before _ _ _ _ c.args.self.said notes h c.end.ensures)
