use Rattle.std.proofs.Common.{◌≡◌, ◌∙◌, ◌<◌, [], ◌∷◌, ◌++◌, ap, subst, arith, length, take, refl}
use Rattle.std.proofs.lemmas.Bool.Decides.{nat_tests}
use Rattle.line_model.specs.text.Text.{begun_line}
use Rattle.json_lines.specs.Json.{json_line, line_room}
use Rattle.line_model.specs.basics.Written.{Puts}
use Rattle.json_lines.proofs.JsonLemmas.{cut_more, cut_full, is_other}
use Rattle.json_lines.proofs.BetweenCallsLemmas.{ends_line, goes_on}
use Rattle.json_lines.proofs.lines.JsonLines.take_byte.Goals as goal

pub returns-then-byte-eq10-clause-goes : goal.returns-then-byte-eq10-clause-goes
returns-then-byte-eq10-clause-goes g c before w =
    let lf : c.with-self.result.bytes ≡ c.args.self.now.given.bytes ++ 10 ∷ [] = c.with-self.ensures ∙ ap (λ b. c.args.self.now.given.bytes ++ b ∷ []) c.if-byte-eq10.true in
    let puts : Puts (g.W.Sink.taken c.args.sink.now, g.W.Sink.failures c.args.sink.now) (g.W.Sink.taken c.put_object.new.sink, g.W.Sink.failures c.put_object.new.sink) c.args.self.now.buffer c.put_object.new.out (json_line c.args.self.now.line.items) =
    λ start text h. subst (λ line. Puts (g.W.Sink.taken c.args.sink.now, g.W.Sink.failures c.args.sink.now) (g.W.Sink.taken c.put_object.new.sink, g.W.Sink.failures c.put_object.new.sink) c.args.self.now.buffer c.put_object.new.out (json_line line)) c.as_slice.ensures.value c.put_object.ensures start text h in
    ends_line before _ _ c.args.self.now _ w lf c.clear.ensures puts

pub returns-then-not-is_full-clause-goes : goal.returns-then-not-is_full-clause-goes
returns-then-not-is_full-clause-goes g c before w =
    let fits : length c.args.self.now.line.items < 256 = let free = c.if-not-is_full.true in let value = c.is_full.ensures.value in let most = c.is_full.ensures.fits in grind (arith, nat_tests, free, value, most) in
    let room : length (take line_room (begun_line c.args.self.now.given.bytes)) < line_room = subst (λ line. length line < 256) w.line fits in
    goes_on before _ c.args.self.now _ c.args.byte w (is_other c.args.byte c.if-byte-eq10.false) c.with-self.ensures refl
    (c.push.ensures.items ∙ ap (λ line. line ++ c.args.byte ∷ []) w.line ∙ cut_more line_room (begun_line c.args.self.now.given.bytes) c.args.byte room)

pub returns-else-not-is_full-clause-goes : goal.returns-else-not-is_full-clause-goes
returns-else-not-is_full-clause-goes g c before w =
    let full : length c.args.self.now.line.items ≡ 256 = let shut = c.if-not-is_full.false in let value = c.is_full.ensures.value in grind (arith, nat_tests, shut, value) in
    let cut : length (take line_room (begun_line c.args.self.now.given.bytes)) ≡ line_room = subst (λ line. length line ≡ 256) w.line full in
    goes_on before _ c.args.self.now _ c.args.byte w (is_other c.args.byte c.if-byte-eq10.false) c.with-self.ensures refl
    (w.line ∙ cut_full line_room (begun_line c.args.self.now.given.bytes) c.args.byte cut)
