use Rattle.std.proofs.lemmas.Result.{IfOk-from_err}
use Rattle.call_accounts.proofs.PlaceLemmas.{added_more, on_result}
use Rattle.call_accounts.proofs.call.Places.add_event.Goals as goal

pub returns : goal.returns
returns g c es holds_at few =
    let current = c.in_ok-select.ensures in
    on_result c.add_event.result
    (λ ok. added_more c.args.self.now c.select.new.self c.add_event.new.self es c.args.event.now current.current.0 current.current.1 current.here current.others
    (λ e k own s is fits. ok _ (c.add_event.ensures.added e k own s is fits)) holds_at few)

pub returns-in_err-select : goal.returns-in_err-select
returns-in_err-select g c es holds_at few = IfOk-from_err _ _ c.from_residual.ensures.0
