use Rattle.std.proofs.lemmas.Grind.{common_steps}
use Rattle.std.proofs.Common.{◌++◌, List, ℕ, subst, append_assoc, arith}
use Rattle.line_model.specs.observer.Report.{account_line}
use Rattle.line_model.specs.basics.Written.{Writes}
use Rattle.report_merge.proofs.WrittenLemmas.{lines_more}
use Rattle.report_merge.proofs.text.put_accounts.Goals as goal

pub loop-account-preserved : goal.loop-account-preserved
loop-account-preserved g c =
    let t = c.loop-account.invariant in
    let i = c.loop-account.account-index in
    let x = c.account-item.result in
    let more : List ℕ = (account_line x) in (
      t.0 ++ more,
      lines_more account_line c.args.accounts.now i x t.0 c.loop-account-test.true c.account-item.is t.1,
      λ before text w. subst (λ l. Writes before (g.W.Sink.taken c.put_account.new.sink, g.W.Sink.failures c.put_account.new.sink) c.put_account.new.out l) (append_assoc text t.0 more) (c.put_account.ensures before _ (t.2 before text w)),
    )

pub returns : goal.returns
returns g c = grind (arith, common_steps) steps 2000000
