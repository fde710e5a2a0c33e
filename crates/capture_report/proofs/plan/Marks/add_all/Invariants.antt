-- What was added comes before what is left.
use Rattle.std.proofs.Common.{◌≡◌, ◌++◌, drop}
use Rattle.std.specs.List.{flat_map}
use Rattle.capture_report.specs.Plans.{accepted_of, range_of}
use Rattle.capture_report.proofs.plan.Marks.add_all.Given as goal

abbrev pub invariant-loop-one : goal.invariant-loop-one
invariant-loop-one l = record {
  ranges : l.self.ranges.items ++ flat_map range_of (drop l.one-index l.shown) ≡ l.fn.self.ranges.items ++ flat_map range_of l.shown;
  accepted : l.self.accepted.items ++ flat_map accepted_of (drop l.one-index l.shown) ≡ l.fn.self.accepted.items ++ flat_map accepted_of l.shown;
}
