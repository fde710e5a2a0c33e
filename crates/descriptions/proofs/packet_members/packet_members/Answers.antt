use Rattle.descriptions.proofs.MemberLemmas.{member_put, no_member}
use Rattle.descriptions.proofs.packet_members.packet_members.Goals as goal

pub returns-in-Diagnostic : goal.returns-in-Diagnostic
returns-in-Diagnostic g c = member_put c.begin.ensures c.named.ensures

pub returns-in_default : goal.returns-in_default
returns-in_default g c = no_member
