use Rattle.std.proofs.Common.{rules}
use Rattle.data_transfer.proofs.flow.Flow.pack.Goals as goal

pub returns-clause-word : goal.returns-clause-word
returns-clause-word c = search rules
