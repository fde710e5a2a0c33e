use Rattle.std.proofs.Common.{length}
use Rattle.trace_text.proofs.ChunkLemmas.{Fed}
use Rattle.trace_text.proofs.lines.Lines.feed_rows.Given as goal

-- what was read of the chunk
abbrev pub invariant-loop-row : goal.invariant-loop-row
invariant-loop-row g l = Fed l.fn.self l.self l.fn.out.items l.out.items l.fn.chunk l.rest

abbrev pub decreases-loop-row : goal.decreases-loop-row
decreases-loop-row g l = length l.rest
