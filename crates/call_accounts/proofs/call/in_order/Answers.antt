use Rattle.std.proofs.Common.{◌≡◌, ◌∙◌, ◌++◌, ◌∷◌, [], ap, subst, sym, Some}
use Rattle.call_accounts.proofs.PlaceLemmas.{IsParted, taken_back}
use Rattle.call_accounts.proofs.call.in_order.Goals as goal

pub loop-epoch-preserved-in_ok-push : goal.loop-epoch-preserved-in_ok-push
loop-epoch-preserved-in_ok-push g c cs left openings =
    let parts = subst (λ l. IsParted c.loop-epoch.places l c.loop-epoch.calls.items cs) c.in-Some.ensures.items (c.loop-epoch.invariant cs left openings) in
    let next = taken_back c.loop-epoch.places c.pop-in-Some.new.self c.pop.new.self.items c.in-Some.epoch c.in-Some.channel c.loop-epoch.calls.items cs c.in_ok-call.field-0 parts
    c.in_ok-call.ensures.popped c.in_ok-call.ensures.left in
    let next_is : Some next.0 ≡ Some c.in-Some-2.call = sym next.1 ∙ c.in-Some-2.is in
    let same : next.0 ≡ c.in-Some-2.call = cc in
    subst (λ l. IsParted c.pop-in-Some.new.self c.pop.new.self.items l cs) (ap (λ r. c.loop-epoch.calls.items ++ r ∷ []) same ∙ sym c.in_ok-push.ensures.items) next.2

pub loop-epoch-preserved : goal.loop-epoch-preserved
loop-epoch-preserved g c cs left openings =
    let parts = subst (λ l. IsParted c.loop-epoch.places l c.loop-epoch.calls.items cs) c.in-Some.ensures.items (c.loop-epoch.invariant cs left openings) in
    let next = taken_back c.loop-epoch.places c.pop-in-Some.new.self c.pop.new.self.items c.in-Some.epoch c.in-Some.channel c.loop-epoch.calls.items cs c.in_ok-call.field-0 parts
    c.in_ok-call.ensures.popped c.in_ok-call.ensures.left in
    absurd (c.in_default-2.not-Some next.0 next.1)
