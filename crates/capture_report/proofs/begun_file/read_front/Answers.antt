-- Each octet that is read comes behind those before it.
use Rattle.std.proofs.Common.{◌∙◌, ◌+◌, ◌∷◌, [], ap, length, length-append}
use Rattle.capture_report.proofs.SoFarLemmas.{octet_read}
use Rattle.capture_report.proofs.begun_file.read_front.Goals as goal

pub loop-preserved : goal.loop-preserved
loop-preserved g c = record {
  consumed = octet_read (g.F.Read.remaining c.args.file.now) (g.F.Read.remaining c.loop.file) (g.F.Read.remaining c.read_octet.new.file) c.in_ok-octet.field-0 c.in-Some.octet c.loop.front.items _ c.in-Some.is c.loop.invariant.consumed
      c.in_ok-octet.ensures.consumed c.in_ok-push.ensures.items;
  many = ap length c.in_ok-push.ensures.items ∙ (length-append c.loop.front.items (c.in-Some.octet ∷ []) ∙ ap (λ n. n + 1) c.loop.invariant.many);
}
