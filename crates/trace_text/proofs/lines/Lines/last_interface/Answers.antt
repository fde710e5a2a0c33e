use Rattle.std.proofs.Common.{arith}
use Rattle.std.proofs.lemmas.Grind.{common_steps}
use Rattle.trace_text.proofs.HeaderLemmas.{no_header}
use Rattle.trace_text.proofs.lines.Lines.last_interface.Goals as goal

pub returns-in-Err : goal.returns-in-Err
returns-in-Err g c = let none = no_header c.as_slice.result.now c.in-Err.field-0 c.in-Err.ensures in grind (arith, common_steps, none)
