-- Segment by segment.
use Rattle.xot_circuits.proofs.laws.first_begins.Goals as goal
use Rattle.xot_circuits.proofs.Joined.{first_begins}

pub returns : goal.returns
returns c = first_begins
