-- What is opened is the text of the capture that the pipe had, by the reader of its rows.
use Rattle.std.proofs.Common.{◌≡◌, ◌∙◌, rules, Option, Some, List, ℕ}
use Rattle.std.specs.Io.Cursor.{cursor_remaining}
use Rattle.capture_report.specs.Recordings.{begun_left, capture_left}
use Rattle.capture_report.proofs.RecordingLemmas.{kept_text, opened_text}
use Rattle.capture_report.proofs.recordings.Recordings.open_kept.Goals as goal

pub returns-clause-text : goal.returns-clause-text
returns-clause-text g c =
    let kept = c.as_slice.result.now in
    let same : kept ≡ c.in_ok-octets.octets.items = search rules in
    let file : cursor_remaining (λ v. Some v.items) c.new.result ≡ Some kept = search rules in
    kept_text (capture_left _) c.new-2.result c.args.self.now.options (begun_left g.R.File.Read.remaining c.args.begun) kept
    (λ octets e. same ∙ c.in_ok-octets.ensures.octets octets e)
    (opened_text (capture_left _) c.new-2.result c.args.self.now.options (cursor_remaining (λ v. Some v.items) c.new.result) (Some kept) c.in_ok-known.known.reader file c.in_ok-known.ensures.reader c.new-2.ensures.left)
