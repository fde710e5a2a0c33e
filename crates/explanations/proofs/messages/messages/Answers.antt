use Rattle.std.proofs.Common.{refl}
use Rattle.explanations.proofs.messages.messages.Goals as goal

pub returns : goal.returns
returns c = refl
