-- In both directions.
use Rattle.capture_files.proofs.PcapngLaw.{blocks_law}
use Rattle.capture_files.proofs.laws.pcapng_records.Goals as goal

pub returns : goal.returns
returns c = blocks_law
