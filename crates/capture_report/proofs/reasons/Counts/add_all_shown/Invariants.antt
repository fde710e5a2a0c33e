-- Those so far, and then those that are left, are all of them.
use Rattle.std.proofs.Common.{◌≡◌, drop}
use Rattle.capture_report.specs.Reasons.{all_shown_counted}
use Rattle.capture_report.proofs.reasons.Counts.add_all_shown.Given as goal

abbrev pub invariant-loop-one : goal.invariant-loop-one
invariant-loop-one l = all_shown_counted (drop l.one-index l.shown) l.self ≡ all_shown_counted l.shown l.fn.self
