use Rattle.std.proofs.Common.{take}
use Rattle.shared_work.specs.findings.Sums.{HasNoted}
use Rattle.shared_work.proofs.findings.room.note_each.Given as goal

abbrev pub invariant-loop-index : goal.invariant-loop-index
invariant-loop-index g l = HasNoted l.fn.known (take l.index l.ids) l.known
