use Rattle.std.proofs.Common.{◌≡◌, ℕ, List, ◌++◌, length}
use Rattle.line_model.specs.basics.Written.{Puts}
use Rattle.annotated_trace.specs.Wording.{plain}
use Rattle.annotated_trace.proofs.page.put_plain.Given as goal

abbrev pub invariant-loop-front : goal.invariant-loop-front
invariant-loop-front g l =
    (done : List ℕ) × (done ++ plain l.rest ≡ plain l.fn.words) × Puts (g.K.Sink.taken l.fn.sink, g.K.Sink.failures l.fn.sink) (g.K.Sink.taken l.sink, g.K.Sink.failures l.sink) l.fn.out l.out done

abbrev pub decreases-loop-front : goal.decreases-loop-front
decreases-loop-front g l = length l.rest
