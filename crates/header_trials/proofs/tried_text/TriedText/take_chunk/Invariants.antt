use Rattle.std.proofs.Common.{ℕ, List, length}
use Rattle.header_trials.specs.Trials.{HasTaken}
use Rattle.header_trials.proofs.TriedLemmas.{Course}
use Rattle.header_trials.proofs.tried_text.TriedText.take_chunk.Given as goal

abbrev pub invariant-loop-after : goal.invariant-loop-after
invariant-loop-after g l = (text : List ℕ) → HasTaken g.C.Channel text l.fn.self → Course g.C.Channel text l.chunk l.rest l.self

abbrev pub decreases-loop-after : goal.decreases-loop-after
decreases-loop-after g l = length l.rest
