use Rattle.descriptions.proofs.sending.Sending.finish.Goals as goal

pub returns-clause-cause : goal.returns-clause-cause
returns-clause-cause g c text w = c.end-answer.ensures.cause g.S.LentSink.before text w

pub returns-clause-ok : goal.returns-clause-ok
returns-clause-ok g c text w = c.end-answer.ensures.ok g.S.LentSink.before text w

pub returns-clause-part : goal.returns-clause-part
returns-clause-part g c text w = c.end-answer.ensures.part g.S.LentSink.before text w
