use Rattle.std.proofs.Common.{◌≡◌, length}
use Rattle.std.specs.Prelude.{option_map}
use Rattle.packet_decode.specs.Asked.{asked_in, IsInRange}
use Rattle.packet_decode.proofs.AskedLemmas.{together}
use Rattle.packet_decode.proofs.facility.read.Given as goal

abbrev pub invariant-loop-left : goal.invariant-loop-left
invariant-loop-left l = record {
  read : asked_in l.interface l.octets ≡ option_map (together l.is_marked l.asked) (asked_in l.interface l.left);
  in_range : IsInRange l.interface l.asked;
}

abbrev pub decreases-loop-left : goal.decreases-loop-left
decreases-loop-left l = length l.left
