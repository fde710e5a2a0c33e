use Rattle.std.proofs.Common.{ap, refl, sym}
use Rattle.descriptions.specs.Members.{circuit_member}
use Rattle.descriptions.proofs.MemberLemmas.{nothing_put}
use Rattle.descriptions.proofs.ValueLemmas.{these_same, these_then}
use Rattle.descriptions.proofs.row_members.circuit_member.Goals as goal

pub returns-in-Some : goal.returns-in-Some
returns-in-Some g c = these_same (ap circuit_member (sym c.in-Some.is)) (these_then c.raw.ensures c.number.ensures)

pub returns-in-None : goal.returns-in-None
returns-in-None g c = these_same (ap circuit_member (sym c.in-None.is)) (nothing_put refl)
