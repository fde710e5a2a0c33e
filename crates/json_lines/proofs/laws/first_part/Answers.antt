use Rattle.json_lines.proofs.JsonLemmas.{json_first}
use Rattle.json_lines.proofs.laws.first_part.Goals as goal

pub returns : goal.returns
returns c = json_first
