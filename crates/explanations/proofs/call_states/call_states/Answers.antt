use Rattle.std.proofs.Common.{refl}
use Rattle.explanations.proofs.call_states.call_states.Goals as goal

pub returns : goal.returns
returns c = refl
