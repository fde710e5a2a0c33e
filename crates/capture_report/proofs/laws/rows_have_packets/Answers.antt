use Rattle.capture_report.proofs.CaptureRowLemmas.{rows_law}
use Rattle.capture_report.proofs.CircuitTextLemmas.{circuit_rows_law}
use Rattle.capture_report.proofs.laws.rows_have_packets.Goals as goal

pub returns-clause-lines : goal.returns-clause-lines
returns-clause-lines c = rows_law

pub returns-clause-circuits : goal.returns-clause-circuits
returns-clause-circuits c = circuit_rows_law
