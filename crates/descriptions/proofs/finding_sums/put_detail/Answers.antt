use Rattle.descriptions.proofs.FindingLemmas.{detail_put, no_details}
use Rattle.descriptions.proofs.finding_sums.put_detail.Goals as goal

pub returns-then-not-is_empty : goal.returns-then-not-is_empty
returns-then-not-is_empty g c = detail_put c.raw.ensures c.put_words.ensures c.raw-then-not-is_empty.ensures

pub returns-else-not-is_empty : goal.returns-else-not-is_empty
returns-else-not-is_empty g c = no_details
