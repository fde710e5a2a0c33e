use Rattle.descriptions.proofs.MemberLemmas.{array_end, element_put}
use Rattle.descriptions.proofs.packet_members.pairs.Goals as goal

pub returns : goal.returns
returns g c = array_end c.loop-pair.is_first c.loop-pair.invariant c.raw-2.ensures

pub loop-pair-preserved : goal.loop-pair-preserved
loop-pair-preserved g c = element_put c.loop-pair.is_first c.loop-pair.invariant c.separate.ensures c.pair_object.ensures
