use Rattle.line_model.proofs.WrittenLemmas.{put_both}
use Rattle.json_lines.proofs.objects.put_quoted.Goals as goal

pub returns : goal.returns
returns g c = put_both _ _ _ _ _ _ _ _ c.put.ensures (put_both _ _ _ _ _ _ _ _ c.put-2.ensures c.put-3.ensures)
