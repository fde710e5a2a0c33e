use Rattle.std.proofs.Common.{rules}
use Rattle.data_transfer.proofs.flow.Flow.reset.Goals as goal

pub returns-clause-represented : goal.returns-clause-represented
returns-clause-represented c = search rules
