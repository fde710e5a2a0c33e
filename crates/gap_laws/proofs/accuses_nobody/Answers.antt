use Rattle.gap_laws.proofs.Laws.{joined_law, thinning_law}
use Rattle.gap_laws.proofs.Thinning.{starts_restarted}
use Rattle.gap_laws.proofs.accuses_nobody.Goals as goal

pub returns-clause-joined : goal.returns-clause-joined
returns-clause-joined c = joined_law

pub returns-clause-law : goal.returns-clause-law
returns-clause-law c = thinning_law

pub returns-clause-whole : goal.returns-clause-whole
returns-clause-whole c = starts_restarted
