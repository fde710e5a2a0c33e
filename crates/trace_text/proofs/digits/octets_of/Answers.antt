use Rattle.trace_text.proofs.LaneLemmas.{decodes-values}
use Rattle.trace_text.proofs.digits.octets_of.Goals as goal

pub returns-clause-octets : goal.returns-clause-octets
returns-clause-octets c text has = decodes-values text c.args.values has
