use Rattle.std.proofs.Common.{refl}
use Rattle.std.specs.Fmt.{digits}
use Rattle.explanations.proofs.flow_codes.flow_codes.Goals as goal

pub returns : goal.returns
unfolding digits
returns c = refl
