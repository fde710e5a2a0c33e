use Rattle.std.proofs.Common.{arith}
use Rattle.capture_report.proofs.CircuitRowLemmas.{content_typed}
use Rattle.capture_report.proofs.circuit_row.content_of.Goals as goal

pub returns-then-octets-le-LONGEST-clause-typed : goal.returns-then-octets-le-LONGEST-clause-typed
returns-then-octets-le-LONGEST-clause-typed c = content_typed c.args.side c.args.octets.now (λ i. let f = c.type_inv.octets i in omega arith)
