use Rattle.descriptions.proofs.MemberLemmas.{member_put}
use Rattle.descriptions.proofs.json.Json.member.Goals as goal

pub returns : goal.returns
returns g c = member_put c.begin.ensures c.value.ensures.value
