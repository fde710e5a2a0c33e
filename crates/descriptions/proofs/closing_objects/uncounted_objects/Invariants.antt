use Rattle.descriptions.specs.Closing.{AreUncounted}
use Rattle.descriptions.specs.Writing.{Adds}
use Rattle.descriptions.proofs.closing_objects.uncounted_objects.Given as goal

abbrev pub invariant-loop-reason : goal.invariant-loop-reason
invariant-loop-reason g l = Adds g.O.Out.has AreUncounted l.fn.json.out l.json.out
