use Rattle.std.proofs.Common.{◌≡◌, ℕ, ◌+◌, cond, count_by, get_or, arith, ap, subst, ◌∙◌}
use Rattle.std.proofs.lemmas.List.{take_all}
use Rattle.std.proofs.lemmas.List.Sums.{sum_by_more}
use Rattle.line_model.specs.basics.Records.{CallRecord}
use Rattle.call_accounts.specs.Sweep.{up_to, is_call_up}
use Rattle.call_accounts.proofs.SweepLemmas.{up_at-counted}
use Rattle.call_accounts.proofs.peak.times.Goals as goal

pub loop-call-preserved : goal.loop-call-preserved
loop-call-preserved g c = λ n.
    let i = c.loop-call.call-index in
    let xs = c.args.calls.now in
    let call = c.call-item.result in
    let f : CallRecord → ℕ = λ x. cond (is_call_up n x) 1 0 in
    let more = sum_by_more f xs i call (omega arith) in
    let bit : f call ≡ f (get_or xs i call) = ap f c.call-item.is in
    omega (arith, more, bit, c.in_ok-add.ensures n, c.loop-call.invariant n)

pub returns : goal.returns
returns g c = λ n.
    let all = take_all c.loop-call.call-index c.args.calls.now (omega arith) in
    let counted : count_by (is_call_up n) c.args.calls.now + up_to n c.loop-call.times.ends.items ≡ up_to n c.loop-call.times.ups.items =
    subst (λ l. count_by (is_call_up n) l + up_to n c.loop-call.times.ends.items ≡ up_to n c.loop-call.times.ups.items) all (c.loop-call.invariant n) in
    ap (λ k. k + up_to n c.loop-call.times.ends.items) (up_at-counted c.args.calls.now n) ∙ counted
