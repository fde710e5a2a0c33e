use Rattle.std.proofs.Common.{sym, subst, ◌∙◌}
use Rattle.std.proofs.lemmas.List.{nil_from_length}
use Rattle.std.specs.Vec.Iter.{into_iter_items}
use Rattle.restart_epochs.specs.BlockCuts.{AreAdded}
use Rattle.restart_epochs.proofs.Added.{none_added}
use Rattle.restart_epochs.proofs.kept_rows.keep_parts.Goals as goal

pub loop-part-init : goal.loop-part-init
loop-part-init g c after added = subst (λ ps. AreAdded c.args.gap ps c.args.rows.now after) c.into_iter-part-iterator.ensures.into_iter_gives.0 added

pub loop-part-preserved : goal.loop-part-preserved
loop-part-preserved g c after added =
    c.loop-part.invariant after (subst (λ ps. AreAdded c.args.gap ps c.loop-part.rows after) (sym c.in-Some.ensures.steps.0) (c.keep_part.new.table, c.in_ok-keep_part.ensures, added))

pub returns : goal.returns
returns g c =
    let empty = nil_from_length (into_iter_items c.loop-part.part-iterator) (sym c.loop-part.part-iterator.rest.ok.0 ∙ c.in-None.ensures.steps.0) in
    c.loop-part.invariant c.loop-part.rows (subst (λ ps. AreAdded c.args.gap ps c.loop-part.rows c.loop-part.rows) (sym empty) (none_added c.args.gap c.loop-part.rows))
