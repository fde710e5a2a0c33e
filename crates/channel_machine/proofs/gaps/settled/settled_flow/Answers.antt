use Rattle.std.proofs.Common.{refl}
use Rattle.channel_machine.proofs.Missed.{set_both}
use Rattle.channel_machine.proofs.gaps.settled.settled_flow.Goals as goal

pub returns-clause-represented : goal.returns-clause-represented
returns-clause-represented c k =
    set_both c.args.modulus c.args.settling.now c.other.result _ _ c.next_settled.result c.new-flow.result c.set_numbers.new.self c.set_numbers-2.new.self k
    c.requires c.new-flow.ensures.modulus c.new-flow.ensures.windows c.new-flow.ensures.represented c.other.ensures refl refl c.next_settled.ensures c.set_numbers.ensures c.set_numbers-2.ensures
