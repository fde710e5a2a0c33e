-- What was seen, and then the rest, is what is seen of all.
use Rattle.std.proofs.Common.{◌≡◌, drop}
use Rattle.std.specs.List.{flat_map}
use Rattle.capture_report.specs.Rows.{shown_rows}
use Rattle.capture_report.specs.Sights.{rows_sight, sight_of}
use Rattle.capture_report.proofs.survey.Survey.see_shown.Given as goal

abbrev pub invariant-loop-one : goal.invariant-loop-one
invariant-loop-one l = rows_sight (flat_map shown_rows (drop l.one-index l.shown)) (sight_of l.self) ≡ rows_sight (flat_map shown_rows l.shown) (sight_of l.fn.self)
