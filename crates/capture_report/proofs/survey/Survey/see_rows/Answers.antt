-- The rows of frames before it were seen, and then its own.
use Rattle.std.specs.List.{flat_map}
use Rattle.capture_rows.specs.Lines.{read_view}
use Rattle.capture_report.specs.Rows.{rows_behind, shown_rows}
use Rattle.capture_report.specs.Sights.{sight_of}
use Rattle.capture_report.proofs.ReadingLemmas.{seen_behind}
use Rattle.capture_report.proofs.survey.Survey.see_rows.Goals as goal

pub returns : goal.returns
returns c =
    let r = read_view c.args.read.now in
    seen_behind c.see_behind.result (flat_map shown_rows c.args.shown.now) (rows_behind r.gap_before c.args.place r.given) (sight_of c.args.self.now) (sight_of c.see_shown.new.self) (sight_of c.see_behind.new.self) c.in_ok-see_shown.ensures c.see_behind.ensures
