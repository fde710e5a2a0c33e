use Rattle.std.proofs.Common.{◌++◌, [], ◌∙◌, ap, arith, sym}
use Rattle.std.proofs.lemmas.List.{nil_from_length}
use Rattle.std.specs.Vec.Iter.{into_iter_items}
use Rattle.workers.proofs.FedLists.{fed_none, first_next, first_planned, first_whole, last_planned}
use Rattle.workers.proofs.piece_feeding.feed_pieces.Goals as goal

pub loop-piece-init : goal.loop-piece-init
loop-piece-init g c =
    let given = c.into_iter-piece-iterator.ensures.into_iter_gives in
    ([], fed_none c.args.pass.now c.requires.open, ap (λ l. l ++ into_iter_items c.into_iter-piece-iterator.result) c.new.ensures.items ∙ given.0)

pub add_waiting-waiting-requires-clause-queue : goal.add_waiting-waiting-requires-clause-queue
add_waiting-waiting-requires-clause-queue g c = c.loop-piece.invariant.1.queue ∙ c.requires.queue

pub add_waiting-waiting-requires-clause-open : goal.add_waiting-waiting-requires-clause-open
add_waiting-waiting-requires-clause-open g c = c.loop-piece.invariant.1.kept.ends

pub add_waiting-waiting-requires-clause-next : goal.add_waiting-waiting-requires-clause-next
add_waiting-waiting-requires-clause-next g c = first_planned g.P.Plan.pieces c.args.pass.now c.loop-piece.pass c.args.pieces.items c.loop-piece.waiting.pieces.items _ _ c.in-Some.piece c.in-Some.ensures.steps.0 c.loop-piece.invariant c.requires.next

pub loop-piece-preserved : goal.loop-piece-preserved
loop-piece-preserved g c = first_next c.args.pass.now c.loop-piece.pass c.add_waiting-waiting.new.pass c.args.pieces.items c.loop-piece.waiting.pieces.items c.add_waiting-waiting.result.pieces.items _ _ c.in-Some.piece c.in-Some.ensures.steps.0 c.loop-piece.invariant c.add_waiting-waiting.ensures.fed

pub feed_waiting-requires-clause-queue : goal.feed_waiting-requires-clause-queue
feed_waiting-requires-clause-queue g c = c.loop-piece.invariant.1.queue ∙ c.requires.queue

pub feed_waiting-requires-clause-open : goal.feed_waiting-requires-clause-open
feed_waiting-requires-clause-open g c = c.loop-piece.invariant.1.kept.ends

pub feed_waiting-requires-clause-next : goal.feed_waiting-requires-clause-next
feed_waiting-requires-clause-next g c =
    let empty = nil_from_length (into_iter_items c.loop-piece.piece-iterator) (sym c.loop-piece.piece-iterator.rest.ok.0 ∙ c.in-None.ensures.steps.0) in
    last_planned g.P.Plan.pieces c.args.pass.now c.loop-piece.pass c.args.pieces.items c.loop-piece.waiting.pieces.items _ empty c.loop-piece.invariant c.requires.next

pub returns : goal.returns
returns g c =
    let empty = nil_from_length (into_iter_items c.loop-piece.piece-iterator) (sym c.loop-piece.piece-iterator.rest.ok.0 ∙ c.in-None.ensures.steps.0) in
    let fed = first_whole c.args.pass.now c.loop-piece.pass c.feed_waiting.new.pass c.args.pieces.items c.loop-piece.waiting.pieces.items _ empty c.loop-piece.invariant c.feed_waiting.ensures.fed in record {
      queue = fed.queue;
      fed = omega (arith, fed.fed, c.args.pieces.ok.0);
      kept = fed.kept;
      pieces = fed.pieces;
    }
