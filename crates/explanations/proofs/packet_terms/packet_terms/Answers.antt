use Rattle.std.proofs.Common.{refl}
use Rattle.explanations.proofs.packet_terms.packet_terms.Goals as goal

pub returns : goal.returns
returns c = refl
