use borrow.Author.Tests.{tests}
use Rattle.std.proofs.Common.{rules}
use Rattle.data_transfer.proofs.direction.Direction.is_next.Goals as goal

pub returns-then-number-self-clause-room : goal.returns-then-number-self-clause-room
returns-then-number-self-clause-room c = search (tests, rules)

pub returns-then-number-self-clause-counts : goal.returns-then-number-self-clause-counts
returns-then-number-self-clause-counts c = search (tests, rules)
