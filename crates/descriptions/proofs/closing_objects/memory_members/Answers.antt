use Rattle.descriptions.proofs.MemberLemmas.{further_then, member_put, no_member}
use Rattle.descriptions.proofs.closing_objects.memory_members.Goals as goal

pub returns : goal.returns
returns g c = further_then c.cause_members.ensures (further_then (member_put c.begin.ensures c.array.ensures) (further_then c.member.ensures (further_then c.member-2.ensures c.known_member.ensures)))

pub returns-in_default : goal.returns-in_default
returns-in_default g c = no_member
