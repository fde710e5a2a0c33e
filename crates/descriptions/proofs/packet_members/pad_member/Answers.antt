use Rattle.std.proofs.Common.{[], refl}
use Rattle.std.specs.Prelude.{codes}
use Rattle.descriptions.specs.Members.{Member, NoMember, Text}
use Rattle.descriptions.proofs.MemberLemmas.{as_form}
use Rattle.descriptions.proofs.packet_members.pad_member.Goals as goal

pub returns-in-T : goal.returns-in-T
returns-in-T g c = as_form (Member (codes "side") (codes "\"T\"") [] refl refl (Text (codes "T") refl) NoMember) c.raw.ensures

pub returns-in-N : goal.returns-in-N
returns-in-N g c = as_form (Member (codes "side") (codes "\"N\"") [] refl refl (Text (codes "N") refl) NoMember) c.raw-in-N.ensures
