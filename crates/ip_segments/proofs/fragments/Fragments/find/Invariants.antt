-- The datagrams that were passed are others.
use Rattle.std.proofs.Common.{◌≡◌, ◌+◌, ◌-◌, ◌≤◌, drop, length}
use Rattle.std.specs.List.{position_or_len}
use Rattle.ip_segments.specs.Gathering.{is_of}
use Rattle.ip_segments.specs.Views.{datagram_view}
use Rattle.ip_segments.proofs.fragments.Fragments.find.Given as goal

abbrev pub invariant-loop-index : goal.invariant-loop-index
invariant-loop-index l = (l.index ≤ length l.self)
    × (l.index + position_or_len (is_of l.identification (datagram_view l.datagram)) (drop l.index l.self) ≡ position_or_len (is_of l.identification (datagram_view l.datagram)) l.self)

abbrev pub decreases-loop-index : goal.decreases-loop-index
decreases-loop-index l = length l.self - l.index
