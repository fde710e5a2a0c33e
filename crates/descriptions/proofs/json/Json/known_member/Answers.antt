use Rattle.descriptions.proofs.MemberLemmas.{no_member}
use Rattle.descriptions.proofs.json.Json.known_member.Goals as goal

pub returns-in-Null : goal.returns-in-Null
returns-in-Null g c = no_member
