use Rattle.descriptions.proofs.MemberLemmas.{first_put, object_end, object_more}
use Rattle.descriptions.proofs.json.Json.named.Goals as goal

pub returns : goal.returns
returns g c = object_end (object_more (first_put c.first.ensures c.value-2.ensures.value) c.member.ensures) c.raw.ensures
