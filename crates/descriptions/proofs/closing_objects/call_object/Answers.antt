use Rattle.std.specs.Prelude.{codes}
use Rattle.descriptions.specs.Members.{IsOfCall}
use Rattle.descriptions.proofs.MemberLemmas.{further_then}
use Rattle.descriptions.proofs.ClosingLemmas.{line_put}
use Rattle.descriptions.proofs.RestLemmas.{call_put}
use Rattle.descriptions.proofs.closing_objects.call_object.Goals as goal

pub returns : goal.returns
returns g c = line_put (codes "call_facts") (IsOfCall c.args.number) c.raw.ensures (call_put c.args.number c.call_member.ensures (further_then c.member.ensures (further_then c.member-2.ensures (further_then c.member-3.ensures c.memory_members.ensures)))) c.raw-2.ensures
