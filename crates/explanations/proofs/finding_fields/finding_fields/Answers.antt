use Rattle.std.proofs.Common.{refl}
use Rattle.explanations.proofs.finding_fields.finding_fields.Goals as goal

pub returns : goal.returns
returns c = refl
