use Rattle.std.proofs.Common.{◌≡◌, ◌∙◌, ◌++◌, subst, sym}
use Rattle.std.specs.Prelude.{OnOk}
use Rattle.descriptions.specs.RowObjects.{circuit_line}
use Rattle.descriptions.proofs.row_objects.PastRows.print_comment.Goals as goal

pub returns-in-Some-clause-object : goal.returns-in-Some-clause-object
returns-in-Some-clause-object g c l is =
    subst (λ named. OnOk c.append_circuit.result (c.append_circuit.new.out.items ≡ c.args.out.now.items ++ circuit_line named)) (sym c.in-Some.is ∙ c.in_ok-circuit.ensures.circuit l is) c.append_circuit.ensures.object
