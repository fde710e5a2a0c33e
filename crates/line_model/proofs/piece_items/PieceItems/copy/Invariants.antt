use Rattle.std.proofs.Common.{◌≡◌, ◌++◌}
use Rattle.line_model.proofs.piece_items.PieceItems.copy.Given as goal

abbrev pub invariant-loop-item : goal.invariant-loop-item
invariant-loop-item g l = l.rows ++ l.item-iterator ≡ l.self
