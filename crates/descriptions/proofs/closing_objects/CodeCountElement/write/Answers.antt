use Rattle.descriptions.proofs.MemberLemmas.{first_put, object_end, object_more}
use Rattle.descriptions.proofs.closing_objects.CodeCountElement.write.Goals as goal

pub returns : goal.returns
returns g c = object_end (object_more (first_put c.first.ensures c.value.ensures.value) c.member.ensures) c.raw.ensures
