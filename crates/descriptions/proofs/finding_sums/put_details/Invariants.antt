use Rattle.descriptions.specs.FindingLines.{AreDetails}
use Rattle.descriptions.specs.Writing.{Adds}
use Rattle.descriptions.proofs.finding_sums.put_details.Given as goal

abbrev pub invariant-loop-detail : goal.invariant-loop-detail
invariant-loop-detail g l = Adds g.O.Out.has AreDetails l.fn.json.out l.json.out
