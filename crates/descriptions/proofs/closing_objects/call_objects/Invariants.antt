use Rattle.descriptions.specs.Closing.{AreCallFacts}
use Rattle.descriptions.specs.Writing.{Adds}
use Rattle.descriptions.proofs.closing_objects.call_objects.Given as goal

abbrev pub invariant-loop-index : goal.invariant-loop-index
invariant-loop-index g l = Adds g.O.Out.has (AreCallFacts l.index) l.fn.json.out l.json.out
