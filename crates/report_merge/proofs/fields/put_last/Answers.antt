use Rattle.std.proofs.lemmas.Grind.{common_steps}
use Rattle.std.proofs.Common.{arith}
use Rattle.report_merge.proofs.fields.put_last.Goals as goal

pub returns : goal.returns
returns g c = grind (arith, common_steps) steps 2000000
