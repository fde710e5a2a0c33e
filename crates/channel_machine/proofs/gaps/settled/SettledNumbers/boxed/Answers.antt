use Rattle.std.proofs.Common.{sym, ◌∙◌, ap, subst, []}
use Rattle.data_transfer.specs.Assembler.{begun_on}
use Rattle.data_transfer.specs.Assembly.{Holds}
use Rattle.channel_machine.specs.GapView.{InDoubt}
use Rattle.channel_machine.specs.SettledNumbers.{NumbersRepresent}
use Rattle.channel_machine.specs.Settling.{settled_after}
use Rattle.channel_machine.proofs.gaps.settled.SettledNumbers.boxed.Goals as goal

pub returns-clause-doubts : goal.returns-clause-doubts
returns-clause-doubts g c = ap (λ (s : InDoubt). s.doubts) c.in_ok-settled.ensures.ok ∙ c.new-numbers.ensures.doubts

pub returns-clause-numbers : goal.returns-clause-numbers
returns-clause-numbers g c k =
    subst (λ s. NumbersRepresent c.args.interface.now.modulus s (settled_after c.args.interface.now.modulus c.args.settling.now k)) (sym c.in_ok-settled.ensures.ok) (c.new-numbers.ensures.numbers k)

pub returns-clause-sequences : goal.returns-clause-sequences
returns-clause-sequences g c x = subst (λ (s : InDoubt). Holds (begun_on s.assembler x) []) (sym c.in_ok-settled.ensures.ok) (c.new-numbers.ensures.sequences x)
