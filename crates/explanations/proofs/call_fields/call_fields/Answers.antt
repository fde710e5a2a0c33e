use Rattle.std.proofs.Common.{refl}
use Rattle.explanations.proofs.call_fields.call_fields.Goals as goal

pub returns : goal.returns
returns c = refl
