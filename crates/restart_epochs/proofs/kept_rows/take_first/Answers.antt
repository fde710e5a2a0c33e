use Rattle.std.proofs.Common.{rules}
use borrow.Author.Tests.{tests}
use Rattle.restart_epochs.proofs.kept_rows.take_first.Goals as goal

pub returns-in_default-Some : goal.returns-in_default-Some
returns-in_default-Some g c = search (tests, rules)

pub returns-in_default-None : goal.returns-in_default-None
returns-in_default-None g c = search (tests, rules)
