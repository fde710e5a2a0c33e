use Rattle.descriptions.proofs.MemberLemmas.{further_then, member_put, no_member}
use Rattle.descriptions.proofs.packet_members.call_members.Goals as goal

pub returns : goal.returns
returns g c =
    further_then c.member.ensures (further_then c.member-2.ensures (further_then c.flag_member.ensures (further_then c.flag_member-2.ensures (further_then (member_put c.begin.ensures c.pair_of.ensures) (further_then (member_put c.begin-2.ensures c.pair_of-2.ensures) (further_then (member_put c.begin-3.ensures c.user_data.ensures) c.flag_member-3.ensures))))))

pub returns-in_default : goal.returns-in_default
returns-in_default g c = no_member
