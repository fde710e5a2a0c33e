use Rattle.std.proofs.Common.{◌≡◌, ◌≤◌, ◌+◌, ◌++◌, drop, sum_by}
use Rattle.call_accounts.specs.Entries.{summed, summed_from}
use Rattle.call_accounts.proofs.account.added_up.Given as goal

abbrev pub invariant-loop-entry : goal.invariant-loop-entry
invariant-loop-entry g l = record {
  accounts : l.accounts.items ++ summed_from l.last l.rank (drop l.entry-index l.rest) ≡ summed l.entries;
  calls : l.last.calls ≤ l.entry-index + 1;
  segments : l.last.segments + sum_by (λ e. e.segments) (drop l.entry-index l.rest) ≤ sum_by (λ e. e.segments) l.entries;
}
