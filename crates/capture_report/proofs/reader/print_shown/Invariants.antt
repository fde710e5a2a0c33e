-- The rows that are left go on behind those that were written.
use Rattle.std.proofs.Common.{◌≡◌, drop}
use Rattle.std.specs.List.{flat_map}
use Rattle.capture_report.specs.Rows.{shown_rows}
use Rattle.capture_report.specs.Texts.{with_rows}
use Rattle.capture_report.proofs.reader.print_shown.Given as goal

abbrev pub invariant-loop-one : goal.invariant-loop-one
invariant-loop-one l = with_rows l.page (flat_map shown_rows (drop l.one-index l.shown)) ≡ with_rows l.fn.page (flat_map shown_rows l.shown)
