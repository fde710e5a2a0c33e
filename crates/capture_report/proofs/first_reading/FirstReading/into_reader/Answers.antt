-- The reader gives the text of the line.
use Rattle.std.proofs.Common.{◌≡◌, ◌∙◌, ap, rules, sym, Some}
use Rattle.line_model.specs.text.Header.{interface_with}
use Rattle.capture_report.specs.CaptureTexts.{line_by, printer_by}
use Rattle.capture_report.specs.HeaderTexts.{head_text}
use Rattle.capture_report.specs.Headers.{numbers_with}
use Rattle.capture_report.specs.Sights.{sight_of}
use Rattle.capture_report.specs.declared.halves.Halves.TheVariants as half
use Rattle.capture_report.specs.declared.reader.Order.TheVariants.{Placed}
use Rattle.capture_report.specs.declared.reader.Reader.TheVariants.{Line}
use Rattle.capture_report.proofs.RecordingLemmas.{line_reader_made}
use Rattle.capture_report.proofs.first_reading.FirstReading.into_reader.Goals as goal

pub returns-clause-reader : goal.returns-clause-reader
returns-clause-reader c =
    let first = c.args.self in
    let i = c.in_ok-head.head.header in
    let head = c.in_ok-head.head.text.items in
    let header : interface_with (numbers_with first.options.header first.survey.seen) ≡ Some i = ap (λ v. interface_with (numbers_with first.options.header v)) (sym c.seen.ensures) ∙ c.in_ok-head.ensures.header in
    let text : head ≡ head_text i first.survey.seen first.options.header = c.in_ok-head.ensures.text ∙ ap (λ v. head_text i v first.options.header) c.seen.ensures in
    let made : c.new-3.result ≡ Line (record { line = line_by first.options; order = Placed first.plan; page = record { printer = printer_by first.options (sight_of first.survey); text = head } }) = search rules in
    record { reader = line_reader_made first i c.new-3.result head made text header; counts = c.counts.ensures; halves = ap (λ h. half.Line h) c.half.ensures }
