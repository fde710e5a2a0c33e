-- The worked files hold by computing.
use Rattle.std.proofs.Common.{refl}
use Rattle.capture_files.specs.Numbers.{number, short_number}
use Rattle.capture_files.specs.WorkedBlocks.{WorkedBlocks}
use Rattle.capture_files.specs.WorkedFile.{WorkedFile}

pub worked_file : WorkedFile
unfolding number
worked_file = refl

pub worked_blocks : WorkedBlocks
unfolding number short_number
worked_blocks = refl
