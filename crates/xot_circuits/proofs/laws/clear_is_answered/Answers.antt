-- Step by step.
use Rattle.xot_circuits.proofs.laws.clear_is_answered.Goals as goal
use Rattle.xot_circuits.proofs.ClearLemmas.{clear_is_answered}

pub returns : goal.returns
returns c = clear_is_answered
