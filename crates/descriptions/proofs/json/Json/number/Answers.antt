use Rattle.std.proofs.Common.{◌∙◌}
use Rattle.descriptions.proofs.MemberLemmas.{as_form}
use Rattle.descriptions.proofs.json.Json.number.Goals as goal

pub returns : goal.returns
returns g c = as_form (c.as_bytes.ensures.value ∙ c.format.ensures.text) c.raw.ensures
