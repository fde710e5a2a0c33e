use Rattle.std.proofs.Common.{List, ℕ, ◌-◌, length}
use Rattle.trace_text.specs.Digits.{HasDecoded}
use Rattle.trace_text.proofs.digits.append_octets.Given as goal

-- the digits that were converted
abbrev pub invariant-loop-rest : goal.invariant-loop-rest
invariant-loop-rest g l = (text : List ℕ) → HasDecoded text l.fn.octets.items l.fn.digits → HasDecoded text l.octets.items l.rest

abbrev pub decreases-loop-rest : goal.decreases-loop-rest
decreases-loop-rest g l = l.fn.count - length l.octets.items
