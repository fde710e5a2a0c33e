-- The pieces that are left go on from the next place.
use Rattle.std.proofs.Common.{◌≡◌, drop}
use Rattle.ip_segments.specs.Pieces.{reach}
use Rattle.ip_segments.proofs.pieces.Pieces.reach.Given as goal

abbrev pub invariant-loop-piece : goal.invariant-loop-piece
invariant-loop-piece l = reach l.next (drop l.piece-index l.piece-items) ≡ reach 0 l.piece-items
