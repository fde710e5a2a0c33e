use Rattle.std.proofs.Common.{refl}
use Rattle.explanations.proofs.settings.settings.Goals as goal

pub returns : goal.returns
returns c = refl
