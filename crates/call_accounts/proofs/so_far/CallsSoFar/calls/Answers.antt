use Rattle.std.proofs.Common.{subst, ◌∙◌, ap, ◌++◌, ◌∷◌, []}
use Rattle.call_accounts.specs.SoFar.{HoldsFor}
use Rattle.call_accounts.proofs.SoFarLemmas.{open_calls_are}
use Rattle.call_accounts.proofs.so_far.CallsSoFar.calls.Goals as goal

pub returns-clause-calls : goal.returns-clause-calls
returns-clause-calls g c = λ epoch channel es s.
    let closed = c.args.self.now.closed.items in
    open_calls_are closed c.push_record.new.calls.items c.in-Some.call epoch channel es s.of_channel (subst (λ o. HoldsFor closed o es) c.in-Some.is s.holds)
    c.in_ok-record.record c.in_ok-record.ensures
    (c.in_ok-push_record.ensures ∙ ap (λ l. l ++ c.in_ok-record.record ∷ []) (c.in_ok-calls.ensures.same ∙ c.deref.ensures.value))
