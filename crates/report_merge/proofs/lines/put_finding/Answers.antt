use Rattle.std.proofs.lemmas.Grind.{common_steps}
use Rattle.std.proofs.Common.{arith}
use Rattle.report_merge.proofs.lines.put_finding.Goals as goal

pub returns-in-Number : goal.returns-in-Number
returns-in-Number g c = grind (arith, common_steps) steps 2000000

pub returns-in-Pad : goal.returns-in-Pad
returns-in-Pad g c = grind (arith, common_steps) steps 2000000
