use Rattle.std.proofs.Common.{◌≡◌, ◌++◌, List, ℕ, Option, Result, Ok, Err, subst, sym, flat_map}
use Rattle.std.specs.Prelude.{OnErr, OnOk}
use Rattle.std.proofs.lemmas.List.Concat.{flat_map-append}
use Rattle.descriptions.specs.Circuits.{Circuit}
use Rattle.descriptions.specs.RowObjects.{circuit_object}
use Rattle.line_model.specs.basics.Written.{HasFront, Writes}
use Rattle.line_model.specs.basics.Device.{with_more}
use Rattle.command_line.proofs.circuits.print_circuits.Goals as goal

some_ok : {T E : Type 0} (r : Result T E) (of : List Circuit → Type 0) (circuits : List Circuit) → OnOk r (of circuits) → OnOk r ((cs : List Circuit) × of cs)
some_ok (Ok t) of circuits is = (circuits, is)
some_ok (Err e) of circuits is = tt

some_err : {T E : Type 0} (r : Result T E) (of : List Circuit → Type 0) (circuits : List Circuit) → OnErr r (of circuits) → OnErr r ((cs : List Circuit) × of cs)
some_err (Ok t) of circuits is = tt
some_err (Err e) of circuits is = (circuits, is)

pub loop-rest-preserved : goal.loop-rest-preserved
loop-rest-preserved g c =
    let before : Option (List ℕ) × ℕ = (g.K.Sink.taken c.args.sink.now, g.K.Sink.failures c.args.sink.now) in
    let t = c.loop-rest.invariant in
    let more = c.put_named.ensures in (
      t.0 ++ more.0,
      subst (λ text. Writes before (g.K.Sink.taken c.put_named.new.sink, g.K.Sink.failures c.put_named.new.sink) c.put_named.new.out text) (sym (flat_map-append circuit_object t.0 more.0)) (more.1 before _ t.1),
    )

pub returns-clause-ok : goal.returns-clause-ok
returns-clause-ok g c =
    let before : Option (List ℕ) × ℕ = (g.K.Sink.taken c.args.sink.now, g.K.Sink.failures c.args.sink.now) in
    some_ok c.end.result (λ cs. g.K.Sink.taken c.end.new.sink ≡ with_more (g.K.Sink.taken c.args.sink.now) (flat_map circuit_object cs)) c.loop-rest.invariant.0 (c.end.ensures.ok before _ c.loop-rest.invariant.1)

pub returns-clause-part : goal.returns-clause-part
returns-clause-part g c =
    let before : Option (List ℕ) × ℕ = (g.K.Sink.taken c.args.sink.now, g.K.Sink.failures c.args.sink.now) in
    some_err c.end.result (λ cs. HasFront (g.K.Sink.taken c.args.sink.now) (g.K.Sink.taken c.end.new.sink) (flat_map circuit_object cs)) c.loop-rest.invariant.0 (c.end.ensures.part before _ c.loop-rest.invariant.1)

pub returns-clause-cause : goal.returns-clause-cause
returns-clause-cause g c =
    let before : Option (List ℕ) × ℕ = (g.K.Sink.taken c.args.sink.now, g.K.Sink.failures c.args.sink.now) in
    c.end.ensures.cause before _ c.loop-rest.invariant.1
