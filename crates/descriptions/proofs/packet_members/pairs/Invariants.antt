use Rattle.descriptions.specs.Writing.{Adds, IsOpenArray}
use Rattle.descriptions.proofs.packet_members.pairs.Given as goal

abbrev pub invariant-loop-pair : goal.invariant-loop-pair
invariant-loop-pair g l = Adds g.O.Out.has (IsOpenArray l.is_first) l.fn.json.out l.json.out
