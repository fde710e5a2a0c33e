use Rattle.std.proofs.Common.{refl}
use Rattle.explanations.proofs.terms.terms.Goals as goal

pub returns : goal.returns
returns c = refl
