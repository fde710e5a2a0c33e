-- The next record of the file is the first of those that were left.
use Rattle.std.proofs.Common.{ap, subst}
use Rattle.capture_files.specs.Records.{Follows, record_in}
use Rattle.capture_files.specs.Windows.{still}
use Rattle.capture_report.specs.Entries.{FileView, shown_left}
use Rattle.capture_report.proofs.FileLemmas.{follows_shown}
use Rattle.capture_report.proofs.file_frames.FileFramesFrames.advance.Goals as goal

pub returns-clause-given : goal.returns-clause-given
returns-clause-given g c =
    let at_first = g.S.Source.left c.self.inside.at_first.value in
    let before = still c.self.inside.window.ahead (g.S.Source.left c.self.inside.source) in
    let after = still c.next.new.window.ahead (g.S.Source.left c.next.new.source) in
    let next = record_in c.next.new.window.last c.in_ok-self-inside.field-0 in
    subst (λ left. Follows left (shown_left at_first c.next.new.self after) next) (ap (λ (v : FileView). v.left) c.self.view_is) (follows_shown at_first before after c.self.inside.file c.next.new.self next c.in_ok-self-inside.ensures.follows)
