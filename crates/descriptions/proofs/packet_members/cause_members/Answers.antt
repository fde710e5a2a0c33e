use Rattle.descriptions.proofs.MemberLemmas.{further_then, member_put}
use Rattle.descriptions.proofs.packet_members.cause_members.Goals as goal

pub returns : goal.returns
returns g c = further_then (member_put c.begin.ensures c.named.ensures) (member_put c.begin-2.ensures c.named-2.ensures)
