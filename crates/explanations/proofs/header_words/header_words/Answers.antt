use Rattle.std.proofs.Common.{refl}
use Rattle.explanations.proofs.header_words.header_words.Goals as goal

pub returns : goal.returns
returns c = refl
