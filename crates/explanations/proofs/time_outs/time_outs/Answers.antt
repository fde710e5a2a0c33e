use Rattle.std.proofs.Common.{refl}
use Rattle.explanations.proofs.time_outs.time_outs.Goals as goal

pub returns : goal.returns
returns c = refl
