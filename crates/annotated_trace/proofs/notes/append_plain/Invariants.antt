use Rattle.std.proofs.Common.{◌≡◌, ◌++◌, length}
use Rattle.annotated_trace.specs.Wording.{BeginsWith, plain}
use Rattle.annotated_trace.proofs.notes.append_plain.Given as goal

abbrev pub invariant-loop-front : goal.invariant-loop-front
invariant-loop-front g l = record {
  rest : l.out.items ++ plain l.rest ≡ l.fn.out.items ++ plain l.fn.words;
  kept : BeginsWith l.fn.out.items l.out.items;
}

abbrev pub decreases-loop-front : goal.decreases-loop-front
decreases-loop-front g l = length l.rest
