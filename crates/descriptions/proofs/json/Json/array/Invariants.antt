use Rattle.descriptions.specs.Writing.{Adds, IsOpenArray}
use Rattle.descriptions.proofs.json.Json.array.Given as goal

abbrev pub invariant-loop-element : goal.invariant-loop-element
invariant-loop-element g l = Adds g.O.Out.has (IsOpenArray l.is_first) l.fn.self.out l.self.out
