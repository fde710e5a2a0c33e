use Rattle.std.proofs.Common.{refl}
use Rattle.line_model.specs.declared.fault.Fault.TheVariants.{Memory, Write}
use Rattle.command_line.proofs.explaining.explain_word.Goals as goal

pub returns-in-Ok-Some-clause-stopped : goal.returns-in-Ok-Some-clause-stopped
returns-in-Ok-Some-clause-stopped g c three = record { fault = Write; other = refl; cause = (c.print_answer.ensures.stopped three).0; said = (c.print_answer.ensures.stopped three).1 }

pub returns-in-Err-clause-stopped : goal.returns-in-Err-clause-stopped
returns-in-Err-clause-stopped g c three = record { fault = Memory; other = refl; cause = tt; said = c.refuse.ensures.said }
