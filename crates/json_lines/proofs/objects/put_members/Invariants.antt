use Rattle.std.proofs.Common.{◌≡◌, ℕ, List, ◌++◌, Option, drop}
use Rattle.std.specs.Prelude.{map}
use Rattle.json_lines.specs.Json.{members}
use Rattle.json_lines.specs.Shown.{field_shown}
use Rattle.line_model.specs.basics.Written.{Writes}
use Rattle.json_lines.proofs.objects.put_members.Given as goal

abbrev pub invariant-loop-field : goal.invariant-loop-field
invariant-loop-field g l = (done : List ℕ) × (done ++ members (map field_shown (drop l.field-index l.fields)) l.words ≡ members (map field_shown l.fn.fields) l.fn.words)
    × ((before : Option (List ℕ) × ℕ) (text : List ℕ) → Writes before (g.W.Sink.taken l.fn.sink, g.W.Sink.failures l.fn.sink) l.fn.out text → Writes before (g.W.Sink.taken l.sink, g.W.Sink.failures l.sink) l.out (text ++ done))
