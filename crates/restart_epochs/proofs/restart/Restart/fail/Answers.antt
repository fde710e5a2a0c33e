use borrow.Author.Tests.{tests}
use Rattle.std.proofs.Common.{rules}
use Rattle.restart_epochs.proofs.restart.Restart.fail.Goals as goal

pub returns-then-eq : goal.returns-then-eq
returns-then-eq c = search (tests, rules)

pub returns : goal.returns
returns c = search (tests, rules)
