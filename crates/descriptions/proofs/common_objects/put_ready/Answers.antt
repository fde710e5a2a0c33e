use Rattle.descriptions.proofs.LineLemmas.{form_put, puts_then}
use Rattle.descriptions.proofs.CommonMembers.{ready_members}
use Rattle.descriptions.proofs.common_objects.put_ready.Goals as goal

pub returns : goal.returns
returns c text =
    form_put _ _ _ (ready_members c.args.digits.now c.from.result text)
    (puts_then _ _ _ _ _ (puts_then _ _ _ _ _ (puts_then _ _ _ _ _ c.number.ensures c.put.ensures) c.put-2.ensures) c.put-3.ensures)
