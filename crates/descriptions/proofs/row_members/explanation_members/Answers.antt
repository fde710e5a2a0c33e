use Rattle.descriptions.proofs.MemberLemmas.{further_then, no_member}
use Rattle.descriptions.proofs.row_members.explanation_members.Goals as goal

pub returns : goal.returns
returns g c = further_then c.member.ensures (further_then c.member-2.ensures (further_then c.member-3.ensures c.member-4.ensures))

pub returns-in_default : goal.returns-in_default
returns-in_default g c = no_member
