-- The cost so far goes on over the pieces that are left.
use Rattle.std.proofs.Common.{◌≡◌, drop}
use Rattle.tcp_streams.specs.Pieces.{cost_from}
use Rattle.tcp_streams.proofs.waiting.Waiting.cost_from.Given as goal

abbrev pub invariant-loop-piece : goal.invariant-loop-piece
invariant-loop-piece l = cost_from l.total (drop l.piece-index l.piece-items) ≡ cost_from l.cost l.piece-items
