use Rattle.std.proofs.Common.{◌∙◌, ap, ◌++◌, take, arith}
use Rattle.std.proofs.lemmas.Grind.{common_steps}
use Rattle.line_model.specs.basics.Device.{with_more}
use Rattle.line_model.proofs.write_buffer.write_all.Goals as goal
use Rattle.line_model.proofs.DeviceLemmas.{with_more-append, split_rest}

pub loop-rest-preserved : goal.loop-rest-preserved
loop-rest-preserved g c =
    let t = c.loop-rest.invariant in (
      grind (arith, common_steps),
      t.1 ++ take c.in-Ok.n c.loop-rest.rest.now,
      split_rest t.1 c.loop-rest.rest.now c.args.bytes.now c.in-Ok.n t.2,
      c.in-Ok.ensures.ok ∙ ap (λ o. with_more o (take c.in-Ok.n c.loop-rest.rest.now)) t.3 ∙ with_more-append (g.W.Sink.taken c.args.sink.now) t.1 (take c.in-Ok.n c.loop-rest.rest.now),
    )
