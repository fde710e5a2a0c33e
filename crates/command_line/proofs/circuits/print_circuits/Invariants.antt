use Rattle.std.proofs.Common.{List, flat_map, length}
use Rattle.descriptions.specs.Circuits.{Circuit}
use Rattle.descriptions.specs.RowObjects.{circuit_object}
use Rattle.line_model.specs.basics.Written.{Writes}
use Rattle.command_line.proofs.circuits.print_circuits.Given as goal

-- the objects of some circuits were put
abbrev pub invariant-loop-rest : goal.invariant-loop-rest
invariant-loop-rest g l = (circuits : List Circuit) × Writes (g.K.Sink.taken l.fn.sink, g.K.Sink.failures l.fn.sink) (g.K.Sink.taken l.sink, g.K.Sink.failures l.sink) l.out (flat_map circuit_object circuits)

abbrev pub decreases-loop-rest : goal.decreases-loop-rest
decreases-loop-rest g l = length l.rest
