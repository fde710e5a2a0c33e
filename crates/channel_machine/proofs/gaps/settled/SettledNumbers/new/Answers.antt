use Rattle.std.proofs.Common.{rules}
use Rattle.channel_machine.proofs.Missed.{new_numbers}
use Rattle.channel_machine.proofs.gaps.settled.SettledNumbers.new.Goals as goal

pub returns-clause-numbers : goal.returns-clause-numbers
returns-clause-numbers g c k =
    new_numbers c.args.interface.now.modulus _ c.args.hidden c.args.settling.now k (search rules) (c.settled_flow.ensures.represented k) c.settled_flow.ensures.modulus c.settled_flow.ensures.widest
