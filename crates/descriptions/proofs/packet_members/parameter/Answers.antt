use Rattle.descriptions.proofs.MemberLemmas.{first_put, object_more}
use Rattle.descriptions.proofs.packet_members.parameter.Goals as goal

pub returns : goal.returns
returns g c = object_more (first_put c.first.ensures c.value.ensures.value) c.member.ensures
