use Rattle.descriptions.proofs.LineLemmas.{puts_then}
use Rattle.descriptions.proofs.common_objects.put_call_member.Goals as goal

pub returns : goal.returns
returns c = puts_then _ _ _ _ _ c.put_call.ensures c.put.ensures
