use Rattle.std.proofs.Common.{length}
use Rattle.trace_text.proofs.DigitCounts.{HasCounted}
use Rattle.trace_text.proofs.digits.count_digits.Given as goal

-- the digits that were passed
abbrev pub invariant-loop-bytes : goal.invariant-loop-bytes
invariant-loop-bytes l = HasCounted l.text l.rest

abbrev pub decreases-loop-bytes : goal.decreases-loop-bytes
decreases-loop-bytes l = length l.rest
