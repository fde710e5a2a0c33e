use Rattle.std.proofs.Common.{refl}
use Rattle.explanations.proofs.data_states.data_states.Goals as goal

pub returns : goal.returns
returns c = refl
