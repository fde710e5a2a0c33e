use Rattle.std.proofs.Common.{◌≡◌, ℕ, length}
use Rattle.std.specs.Prelude.{IfSome, Some}
use Rattle.restart_epochs.specs.ChannelTables.{value_at}
use Rattle.descriptions.proofs.open_calls.OpenCalls.end_all.Given as goal

-- what is left is as it was
abbrev pub invariant-loop-calls : goal.invariant-loop-calls
invariant-loop-calls g l = record {
  opened : l.self.opened ≡ l.fn.self.opened;
  left : (k : ℕ) → IfSome (value_at l.self.table k) (λ c. value_at l.fn.self.table k ≡ Some c);
}

abbrev pub decreases-loop-calls : goal.decreases-loop-calls
decreases-loop-calls g l = length l.self.table.channels
