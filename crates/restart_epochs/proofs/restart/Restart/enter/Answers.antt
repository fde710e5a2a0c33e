use borrow.Author.Tests.{tests}
use Rattle.std.proofs.Common.{rules}
use Rattle.restart_epochs.proofs.restart.Restart.enter.Goals as goal

pub returns-then-left : goal.returns-then-left
returns-then-left c = search (tests, rules)

pub returns-else-left : goal.returns-else-left
returns-else-left c = search (tests, rules)
