-- What was opened is what the system has.
use Rattle.std.proofs.Common.{◌∙◌, ap, true}
use Rattle.std.specs.Option.{option_and_then}
use Rattle.capture_files.specs.CaptureFiles.{records_of}
use Rattle.capture_report.proofs.recordings.Recordings.read_circuits.Goals as goal

pub returns-clause-read : goal.returns-clause-read
returns-clause-read g c = λ records e. c.in_ok-circuits.ensures.read records (ap (option_and_then (records_of true 0)) c.in_ok-open.ensures.opened ∙ e)
