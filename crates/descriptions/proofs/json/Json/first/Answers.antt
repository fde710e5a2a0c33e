use Rattle.std.proofs.Common.{subst, sym}
use Rattle.descriptions.specs.Writing.{IsFirst}
use Rattle.descriptions.proofs.MemberLemmas.{as_form, begins_object}
use Rattle.descriptions.proofs.json.Json.first.Goals as goal

pub returns : goal.returns
returns g c = as_form (subst IsFirst (sym c.as_bytes.ensures.value) (begins_object c.args.beginning.now c.requires)) c.raw.ensures
