use Rattle.json_lines.proofs.ObjectLemmas.{line_object}
use Rattle.json_lines.proofs.laws.object_of_line.Goals as goal

pub returns : goal.returns
returns c = line_object
