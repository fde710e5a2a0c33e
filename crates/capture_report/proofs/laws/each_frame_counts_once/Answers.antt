use Rattle.capture_report.proofs.ReasonLemmas.{line_frames_law, xot_frames_law}
use Rattle.capture_report.proofs.laws.each_frame_counts_once.Goals as goal

pub returns-clause-lines : goal.returns-clause-lines
returns-clause-lines c = line_frames_law

pub returns-clause-xot : goal.returns-clause-xot
returns-clause-xot c = xot_frames_law
