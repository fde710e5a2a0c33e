use Rattle.std.specs.Vec.Iter.{into_iter_items}
use Rattle.restart_epochs.proofs.EndedEpochs.{Ending}
use Rattle.restart_epochs.proofs.open_pieces.OpenPieces.end_epochs.Given as goal

abbrev pub invariant-loop-epoch : goal.invariant-loop-epoch
invariant-loop-epoch g l = Ending l.walk.interface l.walk.epoch l.walk.start l.fn.self.given l.fn.self.gap l.fn.self.rows l.fn.ended.items l.fn.out.items l.self.given l.self.gap l.self.rows (into_iter_items l.epoch-iterator) l.out.items
