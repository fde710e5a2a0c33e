-- The comment comes before the header.
use Rattle.std.proofs.Common.{◌∙◌, ◌++◌, ap}
use Rattle.std.proofs.lemmas.Result.{on_ok_weaker}
use Rattle.capture_report.specs.HeaderTexts.{header_line}
use Rattle.capture_report.proofs.HeaderTextLemmas.{four_more}
use Rattle.capture_report.proofs.header_text.print_head.Goals as goal

pub returns : goal.returns
returns c =
    let headed = c.in_ok-append_header.ensures ∙ ap (λ ranged. c.end_line.new.out.items ++ header_line ranged c.args.header.now) c.has_ranges.ensures in
    on_ok_weaker c.end_line-2.result (λ e. four_more _ _ _ _ _ _ _ _ _ c.in_ok-append_comment.ensures c.in_ok-end_line.ensures headed e) c.end_line-2.ensures
