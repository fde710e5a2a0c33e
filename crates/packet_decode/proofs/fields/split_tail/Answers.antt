use Rattle.std.proofs.lemmas.Grind.{common_steps}
use Rattle.std.proofs.Common.{arith}
use Rattle.packet_decode.proofs.fields.split_tail.Goals as goal

pub returns-in-empty : goal.returns-in-empty
returns-in-empty c = grind (arith, common_steps) steps 2000000

pub returns-else-rest-size : goal.returns-else-rest-size
returns-else-rest-size c = grind (arith, common_steps) steps 2000000
