use Rattle.std.proofs.Common.{◌+◌, ◌++◌, ◌∙◌, ap, length, sym, subst}
use Rattle.std.proofs.lemmas.Bool.{eqb-true}
use Rattle.std.proofs.lemmas.List.{nil_from_length}
use Rattle.shared_work.specs.queue.Rule.{ArePlanned, feeder}
use Rattle.workers.specs.Workers.{FeedsAll}
use Rattle.workers.proofs.FedLists.{fed_bundle, fed_none}
use Rattle.workers.proofs.piece_feeding.feed_waiting.Goals as goal

pub feed_bundle-requires-clause-next : goal.feed_bundle-requires-clause-next
feed_bundle-requires-clause-next g c = subst (ArePlanned g.P.Plan.pieces c.args.pass.now.record_of.fed) (sym c.of_all.ensures) c.requires.next

pub returns-clause-fed : goal.returns-clause-fed
returns-clause-fed g c =
    let e = c.feed_bundle.ensures in
    let given = c.of_all.ensures in
    let v = c.args.pass.now.record_of in
    fed_bundle c.args.pass.now c.feed_bundle.new.pass c.args.waiting.pieces.items c.requires.open e.queue
    (e.fed ∙ ap (λ l. feeder (v.fed + length l) v.ends v.pending v.done v.taken) given) (e.pieces ∙ ap (λ l. c.args.pass.now.pieces ++ l) given)

pub returns-then-is_empty-clause-fed : goal.returns-then-is_empty-clause-fed
returns-then-is_empty-clause-fed g c =
    let empty = nil_from_length c.args.waiting.pieces.items (sym c.args.waiting.pieces.ok.0 ∙ eqb-true c.args.waiting.pieces.len 0 (sym c.if-is_empty.ensures)) in
    subst (λ ps. FeedsAll c.args.pass.now ps c.args.pass.now) (sym empty) (fed_none c.args.pass.now c.requires.open)
