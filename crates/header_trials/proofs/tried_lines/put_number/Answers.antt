use Rattle.std.proofs.Common.{arith}
use Rattle.std.proofs.lemmas.Grind.{common_steps}
use Rattle.header_trials.proofs.tried_lines.put_number.Goals as goal

pub returns : goal.returns
returns g c = grind (arith, common_steps)
