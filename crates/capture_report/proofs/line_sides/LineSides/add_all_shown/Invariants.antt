-- Those so far, and then those that are left, are all of them.
use Rattle.std.proofs.Common.{◌≡◌, drop}
use Rattle.capture_report.specs.LineSides.{all_shown_recorded}
use Rattle.capture_report.proofs.line_sides.LineSides.add_all_shown.Given as goal

abbrev pub invariant-loop-one : goal.invariant-loop-one
invariant-loop-one l = all_shown_recorded (drop l.one-index l.shown) l.self ≡ all_shown_recorded l.shown l.fn.self
