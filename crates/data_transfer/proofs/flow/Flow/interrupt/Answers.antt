use Rattle.std.proofs.Common.{rules}
use Rattle.data_transfer.proofs.flow.Flow.interrupt.Goals as goal

pub returns-clause-counts : goal.returns-clause-counts
returns-clause-counts c = search rules
