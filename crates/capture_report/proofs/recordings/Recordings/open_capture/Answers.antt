-- What is opened is the text of the capture, by the reader of its rows.
use Rattle.capture_report.specs.Recordings.{capture_left}
use Rattle.capture_report.proofs.RecordingLemmas.{opened_text}
use Rattle.capture_report.proofs.recordings.Recordings.open_capture.Goals as goal

pub returns-clause-left : goal.returns-clause-left
returns-clause-left g c =
    opened_text (capture_left g.R.File.Read) c.new.result c.args.self.now.options _ (g.R.Opener.named c.args.self.now.system c.args.name.now) c.in_ok-known.known.reader c.in_ok-open.ensures.opened c.in_ok-known.ensures.reader c.new.ensures.left
