use Rattle.std.proofs.Common.{◌∙◌, sym}
use Rattle.line_model.specs.packets.Says.{gap_of}
use Rattle.descriptions.specs.RowCalls.{row_call}
use Rattle.descriptions.proofs.MemberLemmas.{further_then, no_member}
use Rattle.descriptions.proofs.RestLemmas.{circuit_put, gap_put, packet_put}
use Rattle.descriptions.proofs.row_members.row_members.Goals as goal

pub returns-in-Some : goal.returns-in-Some
returns-in-Some g c = gap_put (gap_of c.args.facts.now.last.now.packet) _ c.args.facts.now.last.now.finding c.args.source.now.recorded.circuit (row_call c.args.facts.now.calls) (sym c.gap_of.ensures ∙ c.in-Some.is) (circuit_put c.args.source.now.recorded.circuit (further_then c.known_member.ensures c.known_member-in-Some.ensures) c.circuit_member.ensures no_member)

pub returns-in-None : goal.returns-in-None
returns-in-None g c = packet_put (gap_of c.args.facts.now.last.now.packet) c.args.facts.now.last.now.finding c.args.source.now.recorded.circuit (row_call c.args.facts.now.calls) (sym c.gap_of.ensures ∙ c.in-None.is) c.members_of_packet.ensures
