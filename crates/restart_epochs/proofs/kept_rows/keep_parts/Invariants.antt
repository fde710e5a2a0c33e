use Rattle.std.specs.Vec.Iter.{into_iter_items}
use Rattle.restart_epochs.specs.OpenRows.{OpenRows}
use Rattle.restart_epochs.specs.BlockCuts.{AreAdded}
use Rattle.restart_epochs.proofs.kept_rows.keep_parts.Given as goal

abbrev pub invariant-loop-part : goal.invariant-loop-part
invariant-loop-part g l = (after : OpenRows) → AreAdded l.gap (into_iter_items l.part-iterator) l.rows after → AreAdded l.gap l.fn.parts.items l.fn.rows after
