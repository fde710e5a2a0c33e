use Rattle.std.proofs.Common.{◌≡◌, ℕ, ◌+◌, take, count_by}
use Rattle.call_accounts.specs.Sweep.{up_to, is_call_up}
use Rattle.call_accounts.proofs.peak.times.Given as goal

abbrev pub invariant-loop-call : goal.invariant-loop-call
invariant-loop-call g l = (n : ℕ) → count_by (is_call_up n) (take l.call-index l.calls) + up_to n l.times.ends.items ≡ up_to n l.times.ups.items
