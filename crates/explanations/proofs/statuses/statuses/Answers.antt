use Rattle.std.proofs.Common.{refl}
use Rattle.std.specs.Fmt.{digits}
use Rattle.explanations.proofs.statuses.statuses.Goals as goal

pub returns : goal.returns
unfolding digits
returns c = refl
