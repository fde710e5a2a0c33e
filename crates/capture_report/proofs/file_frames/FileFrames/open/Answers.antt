-- The source showed its octets from the beginning on, of which the header was read.
use Rattle.std.proofs.Common.{◌∙◌, ap, subst, sym}
use Rattle.capture_files.specs.Windows.{still}
use Rattle.capture_report.specs.Entries.{IsStillShown, shown_left}
use Rattle.capture_report.proofs.FileLemmas.{opened_left, opened_shown}
use Rattle.capture_report.proofs.file_frames.FileFrames.open.Goals as goal

pub invariant_of-result : goal.invariant_of-result
invariant_of-result g c =
    let now = still c.open.new.window.ahead (g.S.Source.left c.open.new.source) in
    let opened = c.in-Ok.ensures.opened in
    (tt, subst (λ s. IsStillShown (g.S.Source.left s) now) (sym c.of-at_first.ensures) (opened_shown c.new-window.result.ahead opened.0 (g.S.Source.left c.args.source) now c.new-window.ensures.ahead opened.2))

pub returns-clause-left : goal.returns-clause-left
returns-clause-left g c =
    let now = still c.open.new.window.ahead (g.S.Source.left c.open.new.source) in
    ap (λ s. shown_left (g.S.Source.left s) c.in-Ok.file now) c.of-at_first.ensures
    ∙ opened_left c.args.may_wait c.args.number c.new-window.result.ahead (g.S.Source.left c.args.source) now c.in-Ok.file c.new-window.ensures.ahead c.in-Ok.ensures.records
