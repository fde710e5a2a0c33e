use Rattle.std.proofs.Common.{refl}
use Rattle.std.specs.Fmt.{digits}
use Rattle.explanations.proofs.restarting_causes.restarting_causes.Goals as goal

pub returns : goal.returns
unfolding digits
returns c = refl
