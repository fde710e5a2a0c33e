use Rattle.line_model.proofs.InOrder.{findings_order}
use Rattle.line_model.proofs.laws.findings_order.Goals as goal

pub returns : goal.returns
returns c = findings_order
