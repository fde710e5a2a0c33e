use Rattle.std.proofs.Common.{[], ◌∷◌, append-nil, subst, sym, ◌++◌}
use Rattle.descriptions.specs.RowObjects.{circuit_object}
use Rattle.line_model.specs.basics.Written.{Writes}
use Rattle.command_line.proofs.circuits.put_named.Goals as goal

pub returns-in-Some : goal.returns-in-Some
returns-in-Some g c = (
  c.in-Some.circuit ∷ [],
  λ before text w.
      subst (λ own. Writes before (g.K.Sink.taken c.put_circuit.new.sink, g.K.Sink.failures c.put_circuit.new.sink) c.put_circuit.new.out (text ++ own)) (sym (append-nil (circuit_object c.in-Some.circuit))) (c.put_circuit.ensures before text w),
)

pub returns-in_default : goal.returns-in_default
returns-in_default g c = ([], λ before text w. subst (λ t. Writes before (g.K.Sink.taken c.args.sink.now, g.K.Sink.failures c.args.sink.now) c.args.out.now t) (sym (append-nil text)) w)
