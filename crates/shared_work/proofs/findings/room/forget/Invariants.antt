use Rattle.std.proofs.Common.{take}
use Rattle.shared_work.specs.findings.Sums.{HasNoted}
use Rattle.shared_work.proofs.findings.room.forget.Given as goal

abbrev pub invariant-loop-id : goal.invariant-loop-id
invariant-loop-id g l = HasNoted l.known (take l.id-index l.ids) l.fn.known
