-- In both directions.
use Rattle.capture_files.proofs.PcapLaw.{records_law}
use Rattle.capture_files.proofs.laws.pcap_records.Goals as goal

pub returns : goal.returns
returns c = records_law
