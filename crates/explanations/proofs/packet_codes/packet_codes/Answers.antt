use Rattle.std.proofs.Common.{refl}
use Rattle.std.specs.Fmt.{digits}
use Rattle.explanations.proofs.packet_codes.packet_codes.Goals as goal

pub returns : goal.returns
unfolding digits
returns c = refl
