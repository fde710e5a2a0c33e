use Rattle.json_lines.specs.Json.{members}
use Rattle.std.specs.Prelude.{map}
use Rattle.json_lines.specs.Shown.{field_shown}
use Rattle.line_model.specs.basics.Written.{Writes}
use Rattle.json_lines.proofs.MemberLemmas.{member_turn}
use Rattle.json_lines.proofs.objects.put_members.Goals as goal

pub loop-field-preserved : goal.loop-field-preserved
loop-field-preserved g c =
    member_turn c.args.fields.now c.loop-field.field-index _ c.loop-field.words _ _ (members (map field_shown c.args.fields.now) c.args.words)
    (λ b text. Writes b (g.W.Sink.taken c.args.sink.now, g.W.Sink.failures c.args.sink.now) c.args.out.now text)
    (λ b text. Writes b (g.W.Sink.taken c.loop-field.sink, g.W.Sink.failures c.loop-field.sink) c.loop-field.out text)
    (λ b text. Writes b (g.W.Sink.taken c.put_member.new.sink, g.W.Sink.failures c.put_member.new.sink) c.put_member.new.out text)
    c.loop-field-test.true c.take-word.ensures.word c.take-word.ensures.rest c.loop-field.invariant c.put_member.ensures
