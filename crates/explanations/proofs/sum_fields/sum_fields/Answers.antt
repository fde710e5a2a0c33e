use Rattle.std.proofs.Common.{refl}
use Rattle.explanations.proofs.sum_fields.sum_fields.Goals as goal

pub returns : goal.returns
returns c = refl
