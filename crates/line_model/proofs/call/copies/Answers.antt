use Rattle.std.proofs.Common.{◌++◌, ◌∷◌, ◌∙◌, [], ap, sym, take}
use Rattle.std.proofs.lemmas.List.{take_all, take_more}
use Rattle.line_model.proofs.call.copies.Goals as goal

pub loop-call-init : goal.loop-call-init
loop-call-init g c = c.in_ok-copies.ensures.items

pub loop-call-preserved : goal.loop-call-preserved
loop-call-preserved g c =
    let calls = c.args.calls.now in
    let i = c.loop-call.call-index in
    c.in_ok-push.ensures.items ∙ ap (λ l. l ++ c.in_ok-copy.field-0 ∷ []) c.loop-call.invariant
    ∙ ap (λ call. take i calls ++ call ∷ []) (c.in_ok-copy.ensures.same ∙ c.call-item.is)
    ∙ sym (take_more calls i c.call-item.result c.loop-call-test.true)

pub returns-clause-same : goal.returns-clause-same
returns-clause-same g c = c.loop-call.invariant ∙ take_all c.loop-call.call-index c.args.calls.now c.loop-call-test.false
