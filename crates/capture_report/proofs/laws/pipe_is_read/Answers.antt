use Rattle.capture_report.proofs.PipedTextLemmas.{pipe_law}
use Rattle.capture_report.proofs.laws.pipe_is_read.Goals as goal

pub returns : goal.returns
returns c = pipe_law
