use Rattle.std.proofs.Common.{inr, refl, subst, sym}
use Rattle.std.specs.Prelude.{◌⊎◌}
use Rattle.command_line.specs.Answer.{IsAnswerTo}
use Rattle.command_line.specs.Asked.{asked_words, has_options}
use Rattle.command_line.specs.Program.{IsUnread}
use Rattle.command_line.specs.Stopped.{IsStopped, asked_workers, opened_by}
use Rattle.command_line.specs.declared.asked.Asked.{Asked}
use Rattle.command_line.proofs.StopLemmas.{halts_more}
use Rattle.command_line.proofs.program.run.Goals as goal

pub returns-in-Conflict-clause-answered : goal.returns-in-Conflict-clause-answered
returns-in-Conflict-clause-answered g c =
    inr (subst (λ (asked : Asked). IsAnswerTo g.S.Source g.K.Sink g.E.Sink (g.S.Input.named c.args.source.now) (asked_words asked) c.args.source.now c.args.source.now c.args.sink.now c.args.sink.now c.args.errors.now c.refuse_usage.new.errors c.refuse_usage.result) (sym c.in-Conflict.is)
    (record { unasked = refl; unwritten = refl; usage = c.refuse_usage.ensures.status }))

pub returns-in-Explanation-clause-answered : goal.returns-in-Explanation-clause-answered
returns-in-Explanation-clause-answered g c =
    inr (subst (λ (asked : Asked). IsAnswerTo g.S.Source g.K.Sink g.E.Sink (g.S.Input.named c.args.source.now) (asked_words asked) c.args.source.now c.args.source.now c.args.sink.now c.explain_word.new.sink c.args.errors.now c.explain_word.new.errors c.explain_word.result) (sym c.in-Explanation.is)
    (refl, c.explain_word.ensures.answered))

pub returns-in-Trace-clause-answered : goal.returns-in-Trace-clause-answered
returns-in-Trace-clause-answered g c =
    subst (λ (asked : Asked). IsUnread (has_options (asked_words asked)) c.args.source.now c.print_trace.new.source c.args.sink.now c.print_trace.new.sink c.print_trace.result ⊎ IsAnswerTo g.S.Source g.K.Sink g.E.Sink (g.S.Input.named c.args.source.now) (asked_words asked) c.args.source.now c.print_trace.new.source c.args.sink.now c.print_trace.new.sink c.args.errors.now c.print_trace.new.errors c.print_trace.result) (sym c.in-Trace.is)
    c.print_trace.ensures.output

pub returns-in-Explanation-clause-stopped : goal.returns-in-Explanation-clause-stopped
returns-in-Explanation-clause-stopped g c three = inr (halts_more (λ failed. absurd failed) (λ failed. failed) (λ none. absurd none) (c.explain_word.ensures.stopped three))

pub returns-in-Trace-clause-stopped : goal.returns-in-Trace-clause-stopped
returns-in-Trace-clause-stopped g c three =
    subst (λ (asked : Asked). IsStopped g.S.Source g.K.Sink g.E.Sink (asked_workers (asked_words asked)) (opened_by (asked_words asked)) c.args.source.now c.print_trace.new.source c.args.sink.now c.print_trace.new.sink c.args.errors.now c.print_trace.new.errors) (sym c.in-Trace.is)
    (c.print_trace.ensures.stopped three)
