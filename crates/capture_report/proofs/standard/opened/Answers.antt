-- The trace is that of the capture in the whole input, of which the first octets were read.
use Rattle.std.proofs.Common.{◌∙◌}
use Rattle.capture_report.specs.Recordings.{begun_left}
use Rattle.capture_report.proofs.PipedLemmas.{standard_opened}
use Rattle.capture_report.proofs.standard.opened.Goals as goal

pub returns-in-Ok : goal.returns-in-Ok
returns-in-Ok g c =
    let begun = c.in_ok-begun in
    standard_opened c.args.options.now (g.I.Read.remaining c.args.input) (begun_left g.I.Read.remaining begun.begun) _ c.is_capture.result c.if-not-is_capture.false (λ octets e. c.is_capture.ensures ∙ begun.ensures.kind octets e) begun.ensures.whole c.in-Ok.ensures.text
