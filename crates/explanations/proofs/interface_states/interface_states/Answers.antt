use Rattle.std.proofs.Common.{refl}
use Rattle.explanations.proofs.interface_states.interface_states.Goals as goal

pub returns : goal.returns
returns c = refl
