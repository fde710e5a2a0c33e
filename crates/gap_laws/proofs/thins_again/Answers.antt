use Rattle.gap_laws.proofs.ThinnedTwice.{thins_again}
use Rattle.gap_laws.proofs.thins_again.Goals as goal

pub returns : goal.returns
returns c = thins_again
