use Rattle.std.proofs.lemmas.Grind.{common_steps}
use borrow.Author.Tests.{tests}
use Rattle.std.proofs.Common.{rules, arith}
use Rattle.packet_decode.proofs.decode.data_header.Goals as goal

pub returns-in-len3-up : goal.returns-in-len3-up
returns-in-len3-up c = search (tests, rules)

pub returns-in-len4-up : goal.returns-in-len4-up
returns-in-len4-up c = grind (arith, common_steps)
