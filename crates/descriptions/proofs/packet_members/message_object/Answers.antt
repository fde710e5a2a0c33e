use Rattle.descriptions.proofs.MemberLemmas.{first_put, member_put, object_end, object_more}
use Rattle.descriptions.proofs.packet_members.message_object.Goals as goal

pub returns-in-Ok : goal.returns-in-Ok
returns-in-Ok g c = object_end (object_more (first_put c.first.ensures c.value.ensures.value) (member_put c.begin.ensures c.pairs.ensures)) c.raw.ensures
