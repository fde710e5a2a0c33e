use Rattle.std.proofs.Common.{◌≡◌, ◌++◌, length}
use Rattle.line_model.specs.basics.Items.{all_items}
use Rattle.line_model.proofs.piece_items.IterIterator.next.Given as goal

abbrev pub invariant-loop-item : goal.invariant-loop-item
invariant-loop-item g l = l.self-inside.begun ++ all_items l.self-inside.parts.now l.self-inside.last ≡ l.fn.self

abbrev pub decreases-loop-item : goal.decreases-loop-item
decreases-loop-item g l = length l.self-inside.parts.now
