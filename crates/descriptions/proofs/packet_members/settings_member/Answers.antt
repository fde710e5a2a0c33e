use Rattle.descriptions.proofs.MemberLemmas.{member_put, no_member}
use Rattle.descriptions.proofs.packet_members.settings_member.Goals as goal

pub returns-then-has_setting : goal.returns-then-has_setting
returns-then-has_setting g c = member_put c.begin.ensures c.settings.ensures

pub returns-else-has_setting : goal.returns-else-has_setting
returns-else-has_setting g c = no_member
