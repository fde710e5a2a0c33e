use Rattle.std.proofs.Common.{arith}
use Rattle.std.proofs.lemmas.Grind.{common_steps}
use Rattle.report_merge.proofs.merging.all_ids.Goals as goal

pub loop-some-preserved : goal.loop-some-preserved
loop-some-preserved g c = grind (arith, common_steps)

pub returns : goal.returns
returns g c = grind (arith, common_steps)
