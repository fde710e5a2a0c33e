use Rattle.std.proofs.Common.{subst, sym}
use Rattle.descriptions.specs.Members.{promised}
use Rattle.descriptions.specs.Writing.{IsBeginning}
use Rattle.descriptions.proofs.MemberLemmas.{as_form, begins}
use Rattle.descriptions.proofs.json.Json.begin.Goals as goal

pub returns : goal.returns
returns g c = as_form (subst (IsBeginning promised) (sym c.as_bytes.ensures.value) (begins promised c.args.beginning.now c.requires)) c.raw.ensures
