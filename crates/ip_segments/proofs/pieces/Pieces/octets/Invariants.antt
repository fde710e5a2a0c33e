-- The octets so far come before those of the pieces that are left.
use Rattle.std.proofs.Common.{◌≡◌, ◌++◌, drop}
use Rattle.ip_segments.specs.Pieces.{all_octets}
use Rattle.ip_segments.proofs.pieces.Pieces.octets.Given as goal

abbrev pub invariant-loop-piece : goal.invariant-loop-piece
invariant-loop-piece l = l.octets ++ all_octets (drop l.piece-index l.piece-items) ≡ all_octets l.piece-items
