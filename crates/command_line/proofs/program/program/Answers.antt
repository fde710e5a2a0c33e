use Rattle.std.proofs.Common.{inr, refl, subst}
use Rattle.std.specs.Prelude.{◌⊎◌}
use Rattle.command_line.specs.Answer.{IsAnswerTo}
use Rattle.command_line.specs.Asked.{AskedWords, has_options}
use Rattle.command_line.specs.Program.{IsUnread}
use Rattle.command_line.specs.Stopped.{IsStopped, asked_workers, opened_by}
use Rattle.line_model.specs.declared.fault.Fault.TheVariants.{Memory}
use Rattle.command_line.proofs.FaultLemmas.{wrong_words}
use Rattle.command_line.proofs.program.program.Goals as goal

pub returns-in-Ok-clause-answered : goal.returns-in-Ok-clause-answered
returns-in-Ok-clause-answered g c =
    subst (λ (asked : AskedWords). IsUnread (has_options asked) c.args.source.now c.run.new.source c.args.sink.now c.run.new.sink c.run.result ⊎ IsAnswerTo g.S.Source g.K.Sink g.E.Sink (g.S.Input.named c.args.source.now) asked c.args.source.now c.run.new.source c.args.sink.now c.run.new.sink c.args.errors.now c.run.new.errors c.run.result)
    c.in-Ok.ensures.asked c.run.ensures.answered

pub returns-in-Err-clause-answered : goal.returns-in-Err-clause-answered
returns-in-Err-clause-answered g c = wrong_words g.S.Source g.K.Sink g.E.Sink _ _ _ c.args.source.now c.args.sink.now c.refuse_words.new.sink c.args.errors.now c.refuse_words.new.errors c.in-Err.error c.refuse_words.result c.in-Err.ensures.kinds c.refuse_words.ensures.status c.refuse_words.ensures.printed c.refuse_words.ensures.unwritten

pub returns-in-Ok-clause-stopped : goal.returns-in-Ok-clause-stopped
returns-in-Ok-clause-stopped g c three =
    subst (λ (asked : AskedWords). IsStopped g.S.Source g.K.Sink g.E.Sink (asked_workers asked) (opened_by asked) c.args.source.now c.run.new.source c.args.sink.now c.run.new.sink c.args.errors.now c.run.new.errors) c.in-Ok.ensures.asked (c.run.ensures.stopped three)

pub returns-in-Err-clause-stopped : goal.returns-in-Err-clause-stopped
returns-in-Err-clause-stopped g c three = inr (record { fault = Memory; other = refl; cause = tt; said = c.refuse_words.ensures.stopped three })
