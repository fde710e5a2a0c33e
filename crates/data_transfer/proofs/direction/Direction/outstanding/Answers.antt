use Rattle.std.proofs.Common.{rules}
use Rattle.data_transfer.proofs.direction.Direction.outstanding.Goals as goal

pub returns : goal.returns
returns c = search rules
