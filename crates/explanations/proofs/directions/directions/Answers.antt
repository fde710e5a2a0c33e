use Rattle.std.proofs.Common.{refl}
use Rattle.explanations.proofs.directions.directions.Goals as goal

pub returns : goal.returns
returns c = refl
