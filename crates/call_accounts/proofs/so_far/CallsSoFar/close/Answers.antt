use Rattle.std.proofs.Common.{◌∙◌, subst, sym}
use Rattle.call_accounts.specs.SoFar.{HoldsFor, HasCallsBy}
use Rattle.call_accounts.proofs.SoFarLemmas.{open_calls_are}
use Rattle.call_accounts.proofs.so_far.CallsSoFar.close.Goals as goal

pub returns-clause-closed : goal.returns-clause-closed
returns-clause-closed g c = λ epoch channel es s.
    let closed = c.args.self.now.closed.items in
    open_calls_are closed c.push_record.new.calls.items c.in-Some.call epoch channel es s.of_channel (subst (λ o. HoldsFor closed o es) c.in-Some.is s.holds)
    c.in_ok-record.record c.in_ok-record.ensures c.in_ok-push_record.ensures

pub returns-clause-has_calls : goal.returns-clause-has_calls
returns-clause-has_calls g c cs t =
    let closed = c.args.self.now.closed.items in
    let h = subst (λ o. HasCallsBy closed o cs) c.in-Some.is t in
    open_calls_are closed c.push_record.new.calls.items c.in-Some.call h.0 h.1 h.2 h.3 h.4 c.in_ok-record.record c.in_ok-record.ensures c.in_ok-push_record.ensures ∙ sym h.5
