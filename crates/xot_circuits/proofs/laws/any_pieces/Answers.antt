-- Piece by piece.
use Rattle.xot_circuits.proofs.Splitting.{any_pieces_are}
use Rattle.xot_circuits.proofs.laws.any_pieces.Goals as goal

pub returns : goal.returns
returns c = any_pieces_are
