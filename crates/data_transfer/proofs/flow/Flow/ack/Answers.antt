use Rattle.std.proofs.lemmas.Grind.{common_steps}
use borrow.Author.Tests.{tests}
use Rattle.std.proofs.Common.{arith, rules}
use Rattle.data_transfer.proofs.flow.Flow.ack.Goals as goal

pub returns-then-not-acknowledges-clause-counts : goal.returns-then-not-acknowledges-clause-counts
returns-then-not-acknowledges-clause-counts c = grind (arith, common_steps) steps 2000000

pub returns-clause-windows : goal.returns-clause-windows
returns-clause-windows c = search (tests, rules)

pub returns-clause-counts : goal.returns-clause-counts
returns-clause-counts c = search (tests, rules)
