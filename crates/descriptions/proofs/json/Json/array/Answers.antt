use Rattle.descriptions.proofs.MemberLemmas.{array_end, element_put}
use Rattle.descriptions.proofs.json.Json.array.Goals as goal

pub returns : goal.returns
returns g c = array_end c.loop-element.is_first c.loop-element.invariant c.raw-2.ensures

pub loop-element-preserved : goal.loop-element-preserved
loop-element-preserved g c = element_put c.loop-element.is_first c.loop-element.invariant c.separate.ensures c.write.ensures
