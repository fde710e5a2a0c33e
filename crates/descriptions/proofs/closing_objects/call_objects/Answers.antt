use Rattle.std.proofs.Common.{refl}
use Rattle.descriptions.proofs.MemberLemmas.{nothing_put}
use Rattle.descriptions.proofs.ClosingLemmas.{facts_then}
use Rattle.descriptions.proofs.closing_objects.call_objects.Goals as goal

pub loop-index-init : goal.loop-index-init
loop-index-init g c = nothing_put refl

pub loop-index-preserved : goal.loop-index-preserved
loop-index-preserved g c = facts_then c.loop-index.index c.loop-index.invariant c.call_object.ensures
