use Rattle.descriptions.proofs.MemberLemmas.{object_end, object_more, object_then}
use Rattle.descriptions.proofs.packet_members.setting.Goals as goal

pub returns : goal.returns
returns g c = object_end (object_more (object_more (object_then c.parameter.ensures c.pad_member.ensures) c.member.ensures) c.member-2.ensures) c.raw.ensures
