use Rattle.capture_report.proofs.CaptureFileLemmas.{file_law}
use Rattle.capture_report.proofs.HeaderLemmas.{circuits_header_there, header_there}
use Rattle.capture_report.proofs.laws.file_is_read.Goals as goal

pub returns-clause-read : goal.returns-clause-read
returns-clause-read c = file_law

pub returns-clause-header : goal.returns-clause-header
returns-clause-header c = header_there

pub returns-clause-circuits : goal.returns-clause-circuits
returns-clause-circuits c = circuits_header_there
