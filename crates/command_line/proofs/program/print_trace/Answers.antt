use Rattle.std.proofs.Common.{◌∙◌, arith, inl, inr, refl, subst}
use Rattle.command_line.specs.Answer.{IsOutput}
use Rattle.command_line.proofs.StopLemmas.{open_statuses, opened_halt}
use Rattle.command_line.proofs.program.print_trace.Goals as goal

pub returns-in-Ok-clause-output : goal.returns-in-Ok-clause-output
returns-in-Ok-clause-output g c =
    inr (subst (λ trace. IsOutput g.S.Source g.K.Sink g.E.Sink c.args.asked.output trace c.print_output.new.source c.args.sink.now c.print_output.new.sink c.args.errors.now c.print_output.new.errors c.print_output.result) (c.show_progress.ensures.left ∙ c.in-Ok.ensures.opened)
    (subst (λ errors. IsOutput g.S.Source g.K.Sink g.E.Sink c.args.asked.output (g.S.Source.left c.show_progress.new.self) c.print_output.new.source c.args.sink.now c.print_output.new.sink errors c.print_output.new.errors c.print_output.result) c.in-Ok.ensures.silent c.print_output.ensures.output))

pub returns-in-Err-clause-output : goal.returns-in-Err-clause-output
returns-in-Err-clause-output g c = inl (record { unasked = c.in-Err.ensures.refused; unwritten = refl; other = open_statuses _ _ _ c.in-Err.ensures.said.1 })

pub returns-in-Ok-clause-stopped : goal.returns-in-Ok-clause-stopped
returns-in-Ok-clause-stopped g c three =
    inr (opened_halt g.S.Source g.K.Sink g.E.Sink _ c.args.source.now c.show_progress.new.self c.print_output.new.source c.args.sink.now c.print_output.new.sink c.args.errors.now c.open_trace.new.errors c.print_output.new.errors
    (c.show_progress.ensures.failures ∙ c.in-Ok.ensures.failures) (c.show_progress.ensures.calls ∙ c.in-Ok.ensures.calls) c.in-Ok.ensures.silent (c.print_output.ensures.stopped three))

pub returns-in-Err-clause-stopped : goal.returns-in-Err-clause-stopped
returns-in-Err-clause-stopped g c three = inl (c.in-Err.ensures.said.0, c.in-Err.ensures.refused, refl)

pub returns-in-Ok-clause-unwritten : goal.returns-in-Ok-clause-unwritten
returns-in-Ok-clause-unwritten g c usage = let range = c.print_output.ensures.range in absurd (omega (arith, range, usage))
