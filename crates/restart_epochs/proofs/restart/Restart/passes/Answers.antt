use borrow.Author.Tests.{tests}
use Rattle.std.proofs.Common.{rules}
use Rattle.restart_epochs.proofs.restart.Restart.passes.Goals as goal

pub returns-in-RestartConfirm : goal.returns-in-RestartConfirm
returns-in-RestartConfirm c = search (tests, rules)
