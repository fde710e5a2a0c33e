use Rattle.std.proofs.Common.{◌∙◌, Some, ap}
use Rattle.command_line.specs.Program.{asked_text}
use Rattle.command_line.proofs.FaultLemmas.{asked_taken}
use Rattle.command_line.proofs.program.refuse_words.Goals as goal

pub returns-in-Some-clause-printed : goal.returns-in-Some-clause-printed
returns-in-Some-clause-printed g c =
    asked_taken c.write_all.result c.as_bytes.result.now (g.K.Sink.taken c.args.sink.now) (g.K.Sink.taken c.write_all.new.sink) (g.K.Sink.failures c.args.sink.now) (g.K.Sink.failures c.write_all.new.sink)
    (ap Some c.as_bytes.ensures.value ∙ c.in-Some.ensures ∙ ap asked_text c.kind.ensures) c.write_all.ensures.ok c.write_all.ensures.part c.write_all.ensures.cause
