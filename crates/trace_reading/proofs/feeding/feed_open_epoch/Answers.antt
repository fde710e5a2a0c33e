use Rattle.std.proofs.Common.{◌∙◌, ◌+◌, ◌++◌, ◌<◌, ◌^◌, ap, sym, refl, List, length, arith, length-append}
use Rattle.line_model.specs.basics.Records.{Piece}
use Rattle.restart_epochs.specs.Cutting.{given_of}
use Rattle.trace_reading.proofs.Nexts.{last_next}
use Rattle.trace_reading.proofs.feeding.feed_open_epoch.Given.{Over}
use Rattle.trace_reading.proofs.feeding.feed_open_epoch.Goals as goal

-- no more pieces than rows
few : (g : Over) (c : goal.After-len g) → c.given-given.result + c.len.result < 2 ^ 32
few g c =
    let ready = c.requires.ready in
    let i = c.args.row_cutter.interface in
    let few = c.in_ok-pieces.ensures.few i ready.0 ready.1.represented in
    omega (arith, few, c.given-given.ensures i ready.0 ready.1.represented, c.len.ensures, c.in_ok-pieces.field-0.pieces.ok.0)

pub overflow_add-all : goal.overflow_add-all
overflow_add-all g c = let least = few g c in omega (arith, least)

pub overflow_cast-result : goal.overflow_cast-result
overflow_cast-result g c =
    let ready = c.requires.ready in
    let i = c.args.row_cutter.interface in
    let few = c.in_ok-pieces.ensures.few i ready.0 ready.1.represented in
    omega (arith, few, c.given-given.ensures i ready.0 ready.1.represented, c.len.ensures, c.in_ok-pieces.field-0.pieces.ok.0)

pub feed_pieces-requires-clause-next : goal.feed_pieces-requires-clause-next
feed_pieces-requires-clause-next g c =
    let ready = c.requires.ready in
    let i = c.args.row_cutter.interface in
    last_next g.P.Plan.pieces i ready.0 (given_of i ready.0) c.in_ok-pieces.field-0.pieces.items c.args.pass.now.record_of.fed ready.2 (c.in_ok-pieces.ensures.pieces i ready.0 ready.1.represented) ready.4

pub returns-clause-cut : goal.returns-clause-cut
returns-clause-cut g c items h fed =
    let i = c.args.row_cutter.interface in
    let all = c.feed_pieces.ensures.pieces ∙ ap (λ l. l ++ c.in_ok-pieces.field-0.pieces.items) fed ∙ c.in_ok-pieces.ensures.pieces i items h.represented in
    let whole = ap (λ (l : List Piece). length l) all ∙ ap (λ (l : List Piece). length l) (sym (c.in_ok-pieces.ensures.pieces i items h.represented)) ∙ length-append (given_of i items) c.in_ok-pieces.field-0.pieces.items in
    record {
      interface = refl;
      all = all;
      interface_findings = c.in_ok-pieces.ensures.interface_findings i items h.represented;
      packets = c.in_ok-pieces.ensures.packets i items h.represented;
      gaps = c.in_ok-pieces.ensures.gaps i items h.represented;
      pieces = omega (arith, c.len.ensures, c.in_ok-pieces.field-0.pieces.ok.0, whole, c.given-given.ensures i items h.represented);
    }
