use Rattle.descriptions.specs.Writing.{Adds, IsOpenArray}
use Rattle.descriptions.proofs.packet_members.settings.Given as goal

abbrev pub invariant-loop-event : goal.invariant-loop-event
invariant-loop-event g l = Adds g.O.Out.has (IsOpenArray l.is_first) l.fn.json.out l.json.out
