use Rattle.descriptions.proofs.MemberLemmas.{further_then, member_put}
use Rattle.descriptions.proofs.packet_members.data_members.Goals as goal

pub returns-in-Some : goal.returns-in-Some
returns-in-Some g c =
    further_then c.member.ensures (further_then c.member-2.ensures (further_then c.flag_member.ensures (further_then c.flag_member-2.ensures (further_then c.flag_member-3.ensures (further_then c.member-3.ensures (member_put c.begin.ensures c.message_object.ensures))))))

pub returns-in_default : goal.returns-in_default
returns-in_default g c = further_then c.member.ensures (further_then c.member-2.ensures (further_then c.flag_member.ensures (further_then c.flag_member-2.ensures (further_then c.flag_member-3.ensures c.member-3.ensures))))
