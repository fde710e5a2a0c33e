use Rattle.std.proofs.Common.{arith}
use Rattle.std.proofs.lemmas.Grind.{common_steps}
use Rattle.header_trials.proofs.tried_lines.put_header.Goals as goal

pub returns-in-true : goal.returns-in-true
returns-in-true g c = grind (arith, common_steps)

pub returns-in-false : goal.returns-in-false
returns-in-false g c = grind (arith, common_steps)
