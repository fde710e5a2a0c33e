use Rattle.std.proofs.Common.{◌≡◌}
use Rattle.std.specs.Iterator.Adapters.{zip_first, zip_second}
use Rattle.std.specs.Vec.Iter.{into_iter_items}
use Rattle.restart_epochs.specs.Cutting.{Represents, given_of}
use Rattle.restart_epochs.proofs.Decoded.{packets, said}
use Rattle.restart_epochs.proofs.Whole.{MayCome}
use Rattle.restart_epochs.proofs.cut.cut.Given as goal

abbrev pub invariant-loop-row : goal.invariant-loop-row
invariant-loop-row g l = record {
  represented : Represents l.interface (said l.interface l.yielded) l.cutter;
  given : l.pieces.items ≡ given_of l.interface (said l.interface l.yielded);
  left : MayCome l.cutter (into_iter_items (zip_first l.row-iterator));
  decoded : into_iter_items (zip_second l.row-iterator) ≡ packets l.interface (into_iter_items (zip_first l.row-iterator));
}
