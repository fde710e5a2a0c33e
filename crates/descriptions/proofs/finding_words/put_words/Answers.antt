use Rattle.descriptions.proofs.MemberLemmas.{as_form}
use Rattle.descriptions.proofs.finding_words.put_words.Goals as goal

pub returns-in-Some : goal.returns-in-Some
returns-in-Some g c = as_form c.in-Some.ensures.1 c.raw.ensures

pub returns-in-None : goal.returns-in-None
returns-in-None g c = as_form c.in-None.ensures c.raw-in-None.ensures
