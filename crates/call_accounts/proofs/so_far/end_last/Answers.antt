use Rattle.std.proofs.Common.{arith, ap, sym, ◌∙◌}
use Rattle.std.specs.Prelude.{is_some}
use Rattle.call_accounts.proofs.SoFarLemmas.{ended_already}
use Rattle.call_accounts.proofs.so_far.end_last.Goals as goal

pub returns-then-is_some : goal.returns-then-is_some
returns-then-is_some g c = λ first.
    let inv = c.loop-index.invariant in
    ended_already c.args.packet c.args.how c.args.calls.now.items c.loop-index.calls.items c.loop-index.index c.index.result.now (omega (arith, c.loop-index-test.true)) (omega arith) c.index.ensures
    (ap (λ v. is_some v.ended) (sym c.behind-calls.view_is) ∙ sym c.is_some.ensures ∙ c.if-is_some.true) inv.before inv.behind inv.length_is first
