use Rattle.std.proofs.Common.{◌≡◌, ℕ, List, ◌++◌, ◌≤◌, length}
use Rattle.line_model.specs.basics.Device.{with_more}
use Rattle.line_model.proofs.write_buffer.write_all.Given as goal

abbrev pub invariant-loop-rest : goal.invariant-loop-rest
invariant-loop-rest g l = (g.W.Sink.failures l.fn.sink ≤ g.W.Sink.failures l.sink) × (front : List ℕ) × (l.fn.bytes ≡ front ++ l.rest) × (g.W.Sink.taken l.sink ≡ with_more (g.W.Sink.taken l.fn.sink) front)

abbrev pub decreases-loop-rest : goal.decreases-loop-rest
decreases-loop-rest g l = length l.rest
