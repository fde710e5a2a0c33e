use Rattle.descriptions.specs.RowCalls.{row_call}
use Rattle.descriptions.proofs.MemberLemmas.{further_then}
use Rattle.descriptions.proofs.RestLemmas.{finding_put, no_finding_put}
use Rattle.descriptions.proofs.row_members.members_of_packet.Goals as goal

pub returns-in-Some : goal.returns-in-Some
returns-in-Some g c = finding_put c.args.facts.now.last.now.finding c.args.source.now.recorded.circuit (row_call c.args.facts.now.calls) c.in-Some.finding c.in-Some.is (further_then c.finding_members.ensures c.known_member.ensures) c.raw.ensures c.further_members.ensures

pub returns-in-None : goal.returns-in-None
returns-in-None g c = no_finding_put c.args.facts.now.last.now.finding c.args.source.now.recorded.circuit (row_call c.args.facts.now.calls) c.in-None.is c.further_members-in-None.ensures
