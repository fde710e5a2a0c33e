use Rattle.descriptions.proofs.MemberLemmas.{object_end, object_more}
use Rattle.descriptions.proofs.packet_members.pair_object.Goals as goal

pub returns : goal.returns
returns g c = object_end (object_more c.parameter.ensures c.member.ensures) c.raw.ensures
