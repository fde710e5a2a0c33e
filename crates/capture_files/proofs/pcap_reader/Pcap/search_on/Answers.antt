-- What a search consumed comes first in the file.
use Rattle.capture_files.proofs.WindowLemmas.{taken}
use Rattle.capture_files.proofs.pcap_reader.Pcap.search_on.Goals as goal

pub returns-then-not-is_end-clause-passes : goal.returns-then-not-is_end-clause-passes
returns-then-not-is_end-clause-passes g c = taken _ _ c.fill.new.self.ahead _ _ _ c.fill.ensures.passes c.take.ensures.last c.take.ensures.ahead

pub returns-clause-passes : goal.returns-clause-passes
returns-clause-passes g c = taken _ _ c.fill.new.self.ahead _ _ _ c.fill.ensures.passes c.take.ensures.last c.take.ensures.ahead
