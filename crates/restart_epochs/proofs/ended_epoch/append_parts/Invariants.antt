use Rattle.std.proofs.Common.{◌≡◌, ◌+◌, ◌<◌, ◌++◌, length}
use Rattle.std.specs.List.{AllByRecursion}
use Rattle.std.specs.Vec.Iter.{into_iter_items}
use Rattle.line_model.specs.basics.Bounds.{IsPiece}
use Rattle.restart_epochs.specs.BlockCuts.{part_pieces}
use Rattle.restart_epochs.specs.OpenRows.{with_gap}
use Rattle.restart_epochs.proofs.ended_epoch.append_parts.Given as goal

abbrev pub invariant-loop-part : goal.invariant-loop-part
invariant-loop-part g l = record {
  ids : l.next + length (into_iter_items l.part-iterator) < 4294967296;
  pieces : AllByRecursion (λ p. IsPiece l.epoch.interface p.channel (with_gap l.epoch.gap p.items)) (into_iter_items l.part-iterator);
  given : l.out.items ++ part_pieces l.epoch.interface l.epoch.number l.epoch.start l.epoch.end l.epoch.gap l.next (into_iter_items l.part-iterator) ≡ l.fn.out.items ++ part_pieces l.epoch.interface l.epoch.number l.epoch.start l.epoch.end l.epoch.gap l.fn.first l.fn.parts.items;
}
