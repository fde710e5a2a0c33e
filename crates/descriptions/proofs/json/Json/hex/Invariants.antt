use Rattle.descriptions.specs.Members.{IsText}
use Rattle.descriptions.specs.Writing.{Adds}
use Rattle.descriptions.proofs.json.Json.hex.Given as goal

abbrev pub invariant-loop-octet : goal.invariant-loop-octet
invariant-loop-octet g l = Adds g.O.Out.has IsText l.initial.self.out l.self.out
