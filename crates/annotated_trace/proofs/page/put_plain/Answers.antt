use Rattle.std.proofs.Common.{◌++◌, ◌∷◌, ◌∙◌, [], ap, subst, append_assoc}
use Rattle.line_model.specs.basics.Written.{Writes}
use Rattle.annotated_trace.proofs.PageLemmas.{plain_more}
use Rattle.annotated_trace.proofs.WordingLemmas.{plain_end, plain_step}
use Rattle.annotated_trace.specs.Wording.{plain}
use Rattle.annotated_trace.proofs.page.put_plain.Goals as goal

pub loop-front-preserved : goal.loop-front-preserved
loop-front-preserved g c =
    let t = c.loop-front.invariant in
    let front = c.in-Some.front.now in (
      (t.0 ++ front) ++ 32 ∷ [],
      plain_step t.0 front c.in-Some.back.now c.loop-front.rest.now (plain c.args.words.now) t.1 c.in-Some.ensures.0 c.in-Some.ensures.1,
      λ start text w. subst (Writes start (g.K.Sink.taken c.put-in-Some.new.sink, g.K.Sink.failures c.put-in-Some.new.sink) c.put-in-Some.new.self) (plain_more text t.0 front) (c.put-in-Some.ensures start _ (c.put.ensures start _ (t.2 start text w))),
    )

pub returns : goal.returns
returns g c start text w =
    let t = c.loop-front.invariant in
    subst (Writes start (g.K.Sink.taken c.put-2.new.sink, g.K.Sink.failures c.put-2.new.sink) c.put-2.new.self)
    (append_assoc text t.0 c.loop-front.rest.now ∙ ap (λ xs. text ++ xs) (plain_end t.0 c.loop-front.rest.now (plain c.args.words.now) t.1 c.in_default.ensures)) (c.put-2.ensures start _ (t.2 start text w))
