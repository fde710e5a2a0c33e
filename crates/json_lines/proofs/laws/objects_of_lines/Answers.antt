use Rattle.json_lines.proofs.ObjectLemmas.{lines_objects}
use Rattle.json_lines.proofs.laws.objects_of_lines.Goals as goal

pub returns : goal.returns
returns c = lines_objects
