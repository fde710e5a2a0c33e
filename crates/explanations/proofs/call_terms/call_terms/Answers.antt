use Rattle.std.proofs.Common.{refl}
use Rattle.explanations.proofs.call_terms.call_terms.Goals as goal

pub returns : goal.returns
returns c = refl
