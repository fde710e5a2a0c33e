use Rattle.std.proofs.Common.{refl}
use Rattle.std.specs.Fmt.{digits}
use Rattle.explanations.proofs.clearing_causes.clearing_causes.Goals as goal

pub returns : goal.returns
unfolding digits
returns c = refl
