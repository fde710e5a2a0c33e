use Rattle.std.proofs.lemmas.Grind.{common_steps}
use Rattle.std.proofs.Common.{arith}
use Rattle.report_merge.proofs.lines.put_gaps.Goals as goal

pub returns-in-Some : goal.returns-in-Some
returns-in-Some g c = grind (arith, common_steps) steps 2000000
