use Rattle.std.proofs.Common.{◌≡◌, ◌++◌, ◌∷◌, ◌∙◌, [], subst, sym}
use Rattle.std.specs.Prelude.{IfErr}
use Rattle.std.proofs.lemmas.List.{take_all, take_more}
use Rattle.std.proofs.lemmas.Result.{IfOk-from_err, err_from_is_err_and}
use Rattle.line_model.specs.declared.fault.Fault.TheVariants.{Memory}
use Rattle.workers.proofs.gathering.totals_of_each.Goals as goal

pub loop-share-init : goal.loop-share-init
loop-share-init g c = c.new-all.ensures.items

pub loop-share-preserved : goal.loop-share-preserved
loop-share-preserved g c =
    c.in_ok-push.ensures.items ∙ (λ j. c.loop-share.invariant j ++ (c.totals.ensures ∙ c.share-item.is) j ∷ [])
    ∙ sym (take_more c.args.shares.now c.loop-share.share-index c.share-item.result c.loop-share-test.true)

pub returns : goal.returns
returns g c = record { same = c.loop-share.invariant ∙ take_all c.loop-share.share-index c.args.shares.now c.loop-share-test.false; refused = tt }

pub returns-in_err-push : goal.returns-in_err-push
returns-in_err-push g c =
    let p = err_from_is_err_and c.from_residual.result c.from_residual.ensures.1 in
    record { same = IfOk-from_err _ _ c.from_residual.ensures.0; refused = subst (λ r. IfErr r (λ f. f ≡ Memory)) (sym p.1) p.2 }
