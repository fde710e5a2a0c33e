use Rattle.std.specs.Prelude.{◌++◌}
use Rattle.std.specs.Vec.Iter.{into_iter_items}
use Rattle.workers.specs.Workers.{FeedsFirst}
use Rattle.workers.proofs.piece_feeding.feed_pieces.Given as goal

abbrev pub invariant-loop-piece : goal.invariant-loop-piece
invariant-loop-piece g l = FeedsFirst l.initial.pass l.fn.pieces.items (l.waiting.pieces.items ++ into_iter_items l.piece-iterator) l.pass
