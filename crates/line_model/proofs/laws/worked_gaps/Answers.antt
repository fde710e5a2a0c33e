use Rattle.line_model.proofs.WorkedGapTraces.{worked_gaps}
use Rattle.line_model.proofs.laws.worked_gaps.Goals as goal

pub returns : goal.returns
returns c = worked_gaps
