-- The octets so far leave the end that the rest goes on from.
use Rattle.std.proofs.Common.{◌≡◌, ◌≤◌, IfSome, drop}
use Rattle.lapb_link.specs.Checks.{end_from, checked_end}
use Rattle.lapb_link.proofs.check.checked_end.Given as goal

abbrev pub invariant-loop-at : goal.invariant-loop-at
invariant-loop-at l = (end_from l.rest l.at l.end (drop l.at l.octets) ≡ checked_end l.octets) × IfSome l.end (λ end. end ≤ l.at)
