use Rattle.line_model.proofs.WorkedTraces.{worked}
use Rattle.line_model.proofs.laws.worked_traces.Goals as goal

pub returns : goal.returns
returns c = worked
