-- By computing.
use Rattle.capture_files.proofs.Worked as worked
use Rattle.capture_files.proofs.laws.worked_blocks.Goals as goal

pub returns : goal.returns
returns c = worked.worked_blocks
