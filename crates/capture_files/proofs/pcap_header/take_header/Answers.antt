-- The header comes first in the file.
use Rattle.std.proofs.Common.{◌∙◌, ◌≤◌, ap, length, length-take-le, rules}
use Rattle.capture_files.proofs.WindowLemmas.{taken}
use Rattle.capture_files.proofs.pcap_header.take_header.Goals as goal

pub returns-clause-length : goal.returns-clause-length
returns-clause-length g c =
    let there : 24 ≤ length c.fill.new.self.ahead = search rules in
    ap length c.take.ensures.last ∙ length-take-le 24 c.fill.new.self.ahead there

pub returns-clause-passes : goal.returns-clause-passes
returns-clause-passes g c = taken _ _ c.fill.new.self.ahead c.take.new.self.last c.take.new.self.ahead 24 c.fill.ensures.passes c.take.ensures.last c.take.ensures.ahead
