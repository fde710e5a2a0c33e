-- Those so far, and then those that are left, are all of them.
use Rattle.std.proofs.Common.{◌≡◌, drop}
use Rattle.capture_report.specs.Reasons.{items_counted}
use Rattle.capture_report.proofs.reasons.Counts.add_items.Given as goal

abbrev pub invariant-loop-index : goal.invariant-loop-index
invariant-loop-index l = items_counted (drop l.index l.items) l.self ≡ items_counted l.items l.fn.self
