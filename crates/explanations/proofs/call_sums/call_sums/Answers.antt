use Rattle.std.proofs.Common.{refl}
use Rattle.explanations.proofs.call_sums.call_sums.Goals as goal

pub returns : goal.returns
returns c = refl
