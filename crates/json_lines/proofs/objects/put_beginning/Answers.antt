use Rattle.std.proofs.Common.{ap}
use Rattle.json_lines.specs.Json.{quoted}
use Rattle.line_model.proofs.WrittenLemmas.{put_both, put_same}
use Rattle.json_lines.proofs.objects.put_beginning.Goals as goal

pub returns : goal.returns
returns g c = put_both _ _ _ _ _ _ _ _ c.put.ensures (put_both _ _ _ _ _ _ _ _ c.put_quoted.ensures (put_both _ _ _ _ _ _ _ _ c.put-2.ensures (put_same _ _ _ _ _ _ c.put_quoted-2.ensures (ap quoted c.as_bytes.ensures.value))))
