-- What was opened is the trace of the capture.
use Rattle.std.proofs.Common.{◌≡◌, rules, true}
use Rattle.capture_report.proofs.RecordingLemmas.{opened_recorded}
use Rattle.capture_report.proofs.recordings.RecordingsOpener.open.Goals as goal

pub returns-then-is_capture-clause-opened : goal.returns-then-is_capture-clause-opened
returns-then-is_capture-clause-opened g c =
    let is : c.in_ok-begun.begun.is_capture ≡ true = search rules in
    opened_recorded _ c.open_recorded.result c.args.self.now.options (g.R.Opener.named c.args.self.now.system c.args.name.now) c.in_ok-begun.begun.is_capture is c.in_ok-begun.ensures.opened.kind c.open_recorded.ensures.left
