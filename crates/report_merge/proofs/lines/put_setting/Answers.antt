use Rattle.std.proofs.lemmas.Grind.{common_steps}
use Rattle.std.proofs.Common.{arith}
use Rattle.report_merge.proofs.lines.put_setting.Goals as goal

pub returns-in-Unknown : goal.returns-in-Unknown
returns-in-Unknown g c = grind (arith, common_steps) steps 2000000

pub returns-in-Asked : goal.returns-in-Asked
returns-in-Asked g c = grind (arith, common_steps) steps 2000000

pub returns-in-Said : goal.returns-in-Said
returns-in-Said g c = grind (arith, common_steps) steps 2000000

pub returns-in-Refused : goal.returns-in-Refused
returns-in-Refused g c = grind (arith, common_steps) steps 2000000
