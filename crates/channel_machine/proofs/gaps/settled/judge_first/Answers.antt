use Rattle.std.proofs.Common.{◌%◌, ap}
use Rattle.data_transfer.specs.FlowResidues.{ResiduesRepresent}
use Rattle.channel_machine.specs.SettledNumbers.{all_acknowledged}
use Rattle.channel_machine.proofs.Numbering.{first_fails, first_passes, first_represents}
use Rattle.channel_machine.proofs.gaps.settled.judge_first.Goals as goal

pub returns-in-Err-clause-numbers : goal.returns-in-Err-clause-numbers
returns-in-Err-clause-numbers c k first =
    let send = c.args.header.now.send in
    let represented : ResiduesRepresent c.set_numbers.new.self (all_acknowledged c.args.side k) =
    first_represents c.args.side send _ c.args.flow c.set_numbers.new.self k first (ap (λ m. send % m) c.modulus.ensures) c.set_numbers.ensures in
    first_fails (Unit {0}) c.in-Err.code c.args.side send c.args.header.now.receive _ c.args.flow c.set_numbers.new.self c.data.new.self k c.requires.widest first c.set_numbers.ensures
    (c.in-Err.ensures.counts (all_acknowledged c.args.side k) represented)

pub returns-clause-numbers : goal.returns-clause-numbers
returns-clause-numbers c k first =
    let send = c.args.header.now.send in
    let represented : ResiduesRepresent c.set_numbers.new.self (all_acknowledged c.args.side k) =
    first_represents c.args.side send _ c.args.flow c.set_numbers.new.self k first (ap (λ m. send % m) c.modulus.ensures) c.set_numbers.ensures in
    first_passes c.in_default.field-0 c.args.side send c.args.header.now.receive _ _ _ c.args.flow c.set_numbers.new.self c.data.new.self c.set_numbers-2.new.self k c.requires.widest first
    c.send_window-lowest.ensures.lowest c.send_window-after.ensures.next c.set_numbers.ensures (c.in_default.ensures.counts (all_acknowledged c.args.side k) represented)
    c.data.ensures.modulus c.data.ensures.windows c.set_numbers-2.ensures
