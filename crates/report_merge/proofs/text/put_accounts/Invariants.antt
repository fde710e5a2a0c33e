use Rattle.std.proofs.Common.{◌≡◌, ℕ, List, ◌++◌, Option, drop}
use Rattle.std.specs.List.{flat_map}
use Rattle.line_model.specs.observer.Report.{account_line}
use Rattle.line_model.specs.basics.Written.{Writes}
use Rattle.report_merge.proofs.text.put_accounts.Given as goal

abbrev pub invariant-loop-account : goal.invariant-loop-account
invariant-loop-account g l = (done : List ℕ) × (done ++ flat_map account_line (drop l.account-index l.accounts) ≡ flat_map account_line l.accounts)
    × ((before : Option (List ℕ) × ℕ) (text : List ℕ) → Writes before (g.W.Sink.taken l.fn.sink, g.W.Sink.failures l.fn.sink) l.fn.out text → Writes before (g.W.Sink.taken l.sink, g.W.Sink.failures l.sink) l.out (text ++ done))
