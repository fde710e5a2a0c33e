-- By the headers.
use Rattle.xot_circuits.proofs.Splitting.{one_split_is}
use Rattle.xot_circuits.proofs.laws.one_split.Goals as goal

pub returns : goal.returns
returns c = one_split_is
