use Rattle.std.proofs.Common.{rules}
use Rattle.data_transfer.proofs.flow.Flow.new.Goals as goal

pub returns-clause-windows : goal.returns-clause-windows
returns-clause-windows c = search rules
