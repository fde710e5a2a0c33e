use Rattle.std.proofs.Common.{length}
use Rattle.trace_text.proofs.ChunkLemmas.{Passed}
use Rattle.trace_text.proofs.lines.Lines.find_row.Given as goal

-- the lines that were passed
abbrev pub invariant-loop-after : goal.invariant-loop-after
invariant-loop-after g l = Passed l.fn.self l.self l.fn.chunk l.rest

abbrev pub decreases-loop-after : goal.decreases-loop-after
decreases-loop-after g l = length l.rest
