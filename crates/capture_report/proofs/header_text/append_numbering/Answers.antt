-- The estimates come one after the other.
use Rattle.std.proofs.Common.{◌≡◌, ◌∙◌, ◌++◌, ap, append_assoc, false}
use Rattle.std.specs.Prelude.{codes, is_some, not}
use Rattle.std.proofs.lemmas.Result.{on_ok_weaker}
use Rattle.capture_report.specs.HeaderTexts.{estimate_text, window_source}
use Rattle.capture_report.proofs.header_text.append_numbering.Goals as goal

pub returns : goal.returns
returns c =
    let header = c.args.header.now in
    let given = c.args.given.now in
    let most : c.window_source.result.now ≡ window_source c.args.seen.now.most = c.window_source.ensures ∙ ap window_source c.most.ensures in
    let first = c.in_ok-append_estimate.ensures ∙ (λ i. c.args.out.now.items ++ estimate_text (c.is_some.ensures i) false (codes "MOD ") (c.wide.ensures i) (codes " (the general format identifiers)")) in
    on_ok_weaker c.append_estimate-2.result (λ e.
    e ∙ (λ i. c.append_estimate.new.out.items ++ estimate_text (c.is_some-2.ensures i) (not (c.is_some-3.ensures i)) (codes "WIN ") (c.wide-2.ensures i) (most i))
    ∙ ap (λ xs. xs ++ estimate_text (is_some given.window) (not (is_some given.modulus)) (codes "WIN ") header.window (window_source c.args.seen.now.most)) first
    ∙ append_assoc c.args.out.now.items _ _) c.append_estimate-2.ensures
