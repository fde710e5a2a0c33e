-- The header comes before the rows that were read.
use Rattle.std.proofs.Common.{◌≡◌, ◌∙◌, ap, subst, Some}
use Rattle.line_model.specs.text.Header.{interface_with}
use Rattle.capture_report.specs.HeaderTexts.{head_text}
use Rattle.capture_report.specs.Headers.{numbers_with}
use Rattle.capture_report.specs.Piped.{gaps_expected, reading_of}
use Rattle.capture_report.specs.declared.header.Seen.{Seen}
use Rattle.capture_report.specs.declared.reader.Order.TheVariants.{Noticed}
use Rattle.capture_report.specs.declared.reader.Reader.TheVariants as read
use Rattle.capture_report.proofs.PipedLemmas.{headed}
use Rattle.capture_report.proofs.piped.LineStart.into_reader.Goals as goal

pub returns-in-Ok-clause-text : goal.returns-in-Ok-clause-text
returns-in-Ok-clause-text c =
    let g = c.args.options.now.header in
    let head = c.in_ok-head.head in
    let seen : c.expecting_gaps-seen.result ≡ gaps_expected c.args.self.survey.seen = c.expecting_gaps-seen.ensures ∙ ap gaps_expected c.into_seen.ensures in
    let header : interface_with (numbers_with g (gaps_expected c.args.self.survey.seen)) ≡ Some head.header = subst (λ (v : Seen). interface_with (numbers_with g v) ≡ Some head.header) seen c.in_ok-head.ensures.header in
    let text : head.text.items ≡ head_text head.header (gaps_expected c.args.self.survey.seen) g = subst (λ (v : Seen). head.text.items ≡ head_text head.header v g) seen c.in_ok-head.ensures.text in
    headed g (gaps_expected c.args.self.survey.seen) (reading_of c.args.self) head.header head.text.items c.new-in-Ok.result header text (c.new-in-Ok.ensures ∙ ap (λ page. read.Line (record { line = c.args.self.line; order = Noticed; page = page })) c.in-Ok.ensures)
