-- The pieces that were passed come before those that hold what is left of the part.
use Rattle.std.proofs.Common.{◌≡◌, ◌≤◌, ◌-◌, ◌++◌, drop, length, take}
use Rattle.ip_segments.specs.Pieces.{inserted, part_view}
use Rattle.ip_segments.proofs.pieces.Pieces.insert.Given as goal

abbrev pub invariant-loop-index : goal.invariant-loop-index
invariant-loop-index l = (l.index ≤ length l.self)
    × (take l.index l.self ++ inserted (part_view l.rest) (drop l.index l.self) ≡ inserted (part_view l.part) l.fn.self)

abbrev pub decreases-loop-index : goal.decreases-loop-index
decreases-loop-index l = length l.self - l.index
