use Rattle.std.proofs.Common.{refl}
use Rattle.explanations.proofs.setting_fields.setting_fields.Goals as goal

pub returns : goal.returns
returns c = refl
