-- The words come before the estimates.
use Rattle.std.proofs.Common.{◌∙◌, ◌++◌, ap, append_assoc, Bool}
use Rattle.std.specs.Prelude.{codes, if◌then◌else◌}
use Rattle.std.proofs.lemmas.Result.{on_ok_weaker}
use Rattle.capture_report.specs.HeaderTexts.{all_estimates}
use Rattle.capture_report.proofs.header_text.append_comment.Goals as goal

pub returns : goal.returns
returns c =
    let estimates = all_estimates c.args.header.now c.args.seen.now c.args.given.now in
    on_ok_weaker c.append_estimates.result (λ e.
    e ∙ ap (λ xs. xs ++ estimates) c.in_ok-extend_from_slice.ensures.items
    ∙ append_assoc c.args.out.now.items (codes "# estimated from what was seen:") estimates
    ∙ ap (λ (b : Bool). c.args.out.now.items ++ (if b then codes "# the header is given" else codes "# estimated from what was seen:" ++ estimates)) c.if-is_whole.ensures)
    c.append_estimates.ensures
