use Rattle.std.proofs.Common.{refl}
use Rattle.explanations.proofs.endings.endings.Goals as goal

pub returns : goal.returns
returns c = refl
