use Rattle.std.specs.Prelude.{decimal}
use Rattle.descriptions.specs.Members.{Number}
use Rattle.descriptions.proofs.LineLemmas.{form_put, puts_then}
use Rattle.descriptions.proofs.CommonMembers.{data_members}
use Rattle.descriptions.proofs.common_objects.put_data.Goals as goal

pub returns : goal.returns
returns c text =
    form_put _ _ _ (data_members c.args.digits.now c.bit_members.result.now (decimal c.from.result) c.from-3.result c.from-2.result text (c.bit_members.ensures (decimal c.from.result) (Number c.from.result)))
    (puts_then _ _ _ _ _ (puts_then _ _ _ _ _ (puts_then _ _ _ _ _ (puts_then _ _ _ _ _ (puts_then _ _ _ _ _ (puts_then _ _ _ _ _ (puts_then _ _ _ _ _ c.number.ensures c.put.ensures) c.number-2.ensures) c.put-2.ensures) c.number-3.ensures) c.put-3.ensures) c.put-4.ensures) c.put-5.ensures)
