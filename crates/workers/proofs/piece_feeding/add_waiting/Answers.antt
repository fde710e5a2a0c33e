use Rattle.std.proofs.Common.{◌∷◌, ◌++◌, ◌∙◌, [], refl, sym, subst}
use Rattle.shared_work.specs.queue.Rule.{ArePlanned}
use Rattle.workers.specs.Workers.{FeedsAll, FeedsFirst}
use Rattle.workers.proofs.FedLists.{all_fed, all_wait, fed_bundle, first_more, first_on, last_next, left_planned, none_wait, planned_front}
use Rattle.workers.proofs.piece_feeding.add_waiting.Given.{Over}
use Rattle.workers.proofs.piece_feeding.add_waiting.Goals.{After-push, then-go_before, else-go_before}
use Rattle.workers.proofs.piece_feeding.add_waiting.Goals as goal

pub feed_waiting-waiting-requires-clause-next : goal.feed_waiting-waiting-requires-clause-next
feed_waiting-waiting-requires-clause-next g c = planned_front g.P.Plan.pieces c.args.pass.now.record_of.fed c.args.waiting.pieces.items _ c.requires.next

-- what is left of them all: those that wait now, and the piece
left : (g : Over) (c : After-push g) → FeedsFirst c.args.pass.now (c.args.waiting.pieces.items ++ c.args.piece ∷ []) (c.if-go_before.waiting.pieces.items ++ c.args.piece ∷ []) c.if-go_before.pass
left g c = first_more c.args.pass.now c.if-go_before.pass c.args.waiting.pieces.items c.if-go_before.waiting.pieces.items (c.args.piece ∷ []) (elim c.if-go_before.branch [
  | then-go_before w ↦ rw (w.waiting-is, w.pass-is) (all_fed c.args.pass.now w.feed_waiting-waiting.new.pass c.args.waiting.pieces.items w.feed_waiting-waiting.result.pieces.items w.feed_waiting-waiting.ensures.none w.feed_waiting-waiting.ensures.fed)
  | else-go_before w ↦ rw (w.waiting-is, w.pass-is) (all_wait c.args.pass.now c.args.waiting.pieces.items c.args.waiting.pieces.items c.requires.open refl)
])

pub feed_waiting-none-requires-clause-next : goal.feed_waiting-none-requires-clause-next
feed_waiting-none-requires-clause-next g c =
    let f = left g (goal.at.feed_waiting-none-requires-clause-next g c).After-push in
    subst (ArePlanned g.P.Plan.pieces c.if-go_before.pass.record_of.fed) (sym c.in-Err.ensures.items)
    (planned_front g.P.Plan.pieces c.if-go_before.pass.record_of.fed c.if-go_before.waiting.pieces.items _ (left_planned g.P.Plan.pieces c.args.pass.now c.if-go_before.pass _ _ f c.requires.next))

pub feed_piece-requires-clause-queue : goal.feed_piece-requires-clause-queue
feed_piece-requires-clause-queue g c = c.feed_waiting-none.ensures.fed.queue ∙ (left g (goal.at.feed_piece-requires-clause-queue g c).After-push).1.queue ∙ c.requires.queue

pub feed_piece-requires-clause-next : goal.feed_piece-requires-clause-next
feed_piece-requires-clause-next g c =
    let f = left g (goal.at.feed_piece-requires-clause-next g c).After-push in
    last_next g.P.Plan.pieces c.if-go_before.pass c.feed_waiting-none.new.pass c.if-go_before.waiting.pieces.items c.args.piece _ c.in-Err.ensures.value_returned
    (subst (λ l. FeedsAll c.if-go_before.pass l c.feed_waiting-none.new.pass) c.in-Err.ensures.items c.feed_waiting-none.ensures.fed) (left_planned g.P.Plan.pieces c.args.pass.now c.if-go_before.pass _ _ f c.requires.next)

pub returns-in-Ok : goal.returns-in-Ok
returns-in-Ok g c = let f = left g (goal.at.returns-in-Ok g c).After-push in record { fed = first_on c.args.pass.now c.if-go_before.pass c.if-go_before.pass _ _ _ f (all_wait c.if-go_before.pass _ _ f.1.kept.ends c.in-Ok.ensures.items) }

pub returns-in-Err : goal.returns-in-Err
returns-in-Err g c =
    let f = left g (goal.at.returns-in-Err g c).After-push in
    let one = subst (λ l. FeedsAll c.if-go_before.pass l c.feed_waiting-none.new.pass) c.in-Err.ensures.items c.feed_waiting-none.ensures.fed in
    let p = c.in-Err.refused.value in
    let two = fed_bundle c.feed_waiting-none.new.pass c.feed_piece.new.pass (p ∷ []) one.kept.ends c.feed_piece.ensures.queue c.feed_piece.ensures.fed c.feed_piece.ensures.pieces in record {
      fed = first_on c.args.pass.now c.if-go_before.pass c.feed_piece.new.pass _ _ _ f (none_wait c.if-go_before.pass c.feed_waiting-none.new.pass c.feed_piece.new.pass c.if-go_before.waiting.pieces.items c.feed_waiting-none.result.pieces.items c.args.piece c.feed_waiting-none.ensures.none one (subst (λ q. FeedsAll c.feed_waiting-none.new.pass (q ∷ []) c.feed_piece.new.pass) c.in-Err.ensures.value_returned two));
    }
