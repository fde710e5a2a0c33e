use Rattle.std.proofs.Common.{rules}
use Rattle.restart_epochs.proofs.restart.Restart.act.Goals as goal

pub returns-in_default : goal.returns-in_default
returns-in_default c = search rules
