use Rattle.descriptions.proofs.ValueLemmas.{these_then}
use Rattle.descriptions.proofs.json.Json.quoted.Goals as goal

pub returns : goal.returns
returns g c = these_then c.raw.ensures (these_then c.words.ensures c.raw-2.ensures)
