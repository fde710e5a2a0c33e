use Rattle.std.proofs.Common.{◌∙◌, subst}
use Rattle.descriptions.specs.Members.{IsOfRow}
use Rattle.descriptions.specs.Writing.{Adds}
use Rattle.descriptions.proofs.MemberLemmas.{further_then, member_put}
use Rattle.descriptions.proofs.RestLemmas.{circuit_put, row_put}
use Rattle.descriptions.proofs.row_members.further_members.Goals as goal

pub returns : goal.returns
returns g c =
    subst (λ n. Adds g.O.Out.has (IsOfRow c.args.source.now.recorded.circuit n) c.args.json.now.out c.settings_member.new.json.out) (c.from.ensures ∙ c.of_row.ensures)
    (row_put c.args.source.now.recorded.circuit c.from.result c.call_member.ensures
    (circuit_put c.args.source.now.recorded.circuit
    (further_then c.flag_member.ensures (further_then c.flag_member-2.ensures (further_then (member_put c.begin.ensures c.array.ensures) (further_then c.member.ensures (further_then c.member-2.ensures c.known_member.ensures)))))
    c.circuit_member.ensures
    (further_then c.member-3.ensures (further_then (member_put c.begin-2.ensures c.hex.ensures) (further_then c.packet_members.ensures c.settings_member.ensures)))))
