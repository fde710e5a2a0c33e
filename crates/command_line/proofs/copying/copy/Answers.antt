use Rattle.std.proofs.Common.{◌≢◌, ◌≡◌, ap, arith, length, subst, sym}
use Rattle.std.proofs.lemmas.Bool.{eqb-false}
use Rattle.line_model.specs.basics.Device.{Gives}
use Rattle.command_line.specs.Program.{fault_status}
use Rattle.command_line.proofs.CopyLemmas.{copied_less, copied_more}
use Rattle.command_line.proofs.copying.copy.Goals as goal

pub returns-in-Err-clause-copied : goal.returns-in-Err-clause-copied
returns-in-Err-clause-copied g c =
    let gives = subst (λ bytes. Gives (g.S.Source.left c.loop-source.source) (g.S.Source.left c.read.new.self) bytes) (sym c.latest-chunk.ensures) c.in-Ok.ensures.given in
    let status : fault_status c.in-Err.fault ≡ 3 = ap fault_status c.in-Err.ensures.write in
    copied_less (g.S.Source.left c.args.source.now) (g.S.Source.left c.loop-source.source) (g.S.Source.left c.read.new.self) (g.K.Sink.taken c.args.sink.now) (g.K.Sink.taken c.loop-source.sink) (g.K.Sink.taken c.write_all.new.sink) c.loop-source.room c.latest-chunk.result.now c.in-Err.fault
    c.loop-source.invariant.copied gives c.in-Err.ensures.part (λ two. absurd (omega (arith, status, two)))

pub loop-source-preserved : goal.loop-source-preserved
loop-source-preserved g c =
    let bytes = c.latest-chunk.result.now in
    let gives = subst (λ bytes. Gives (g.S.Source.left c.loop-source.source) (g.S.Source.left c.read.new.self) bytes) (sym c.latest-chunk.ensures) c.in-Ok.ensures.given in
    let some : length bytes ≢ 0 = eqb-false (length bytes) 0 (sym c.if-is_empty.ensures) in
    let few = c.if-chunk-room.false in
    let inv = c.loop-source.invariant in
    record {
      calls = omega (arith, some, few, inv.calls, c.read.ensures.calls);
      failures = omega (arith, inv.failures, c.in-Ok.ensures.failures);
      written = omega (arith, inv.written, c.in_default-write_all.ensures.rising);
      copied = copied_more (g.S.Source.left c.args.source.now) (g.S.Source.left c.loop-source.source) (g.S.Source.left c.read.new.self) (g.K.Sink.taken c.args.sink.now) (g.K.Sink.taken c.loop-source.sink) (g.K.Sink.taken c.write_all.new.sink) c.loop-source.room bytes
          inv.copied gives few c.in_default-write_all.ensures.ok;
    }
