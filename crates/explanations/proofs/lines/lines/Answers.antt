use Rattle.std.proofs.Common.{refl}
use Rattle.explanations.proofs.lines.lines.Goals as goal

pub returns : goal.returns
returns c = refl
