use Rattle.json_lines.proofs.ObjectLemmas.{objects_apart}
use Rattle.json_lines.proofs.laws.line_by_line.Goals as goal

pub returns : goal.returns
returns c = objects_apart
