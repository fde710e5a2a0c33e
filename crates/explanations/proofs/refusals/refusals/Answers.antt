use Rattle.std.proofs.Common.{refl}
use Rattle.explanations.proofs.refusals.refusals.Goals as goal

pub returns : goal.returns
returns c = refl
