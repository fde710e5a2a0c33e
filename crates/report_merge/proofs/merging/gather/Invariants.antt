use Rattle.std.proofs.Common.{flat_map}
use Rattle.report_merge.specs.Gathered.{AreGathered}
use Rattle.report_merge.proofs.merging.gather.Given as goal

abbrev pub invariant-loop-some : goal.invariant-loop-some
invariant-loop-some g l = AreGathered (flat_map g.T.Reports.reports l.yielded) l.parts
