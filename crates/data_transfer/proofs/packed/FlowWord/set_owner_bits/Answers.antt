use Rattle.std.proofs.Common.{ap, arith}
use Rattle.data_transfer.proofs.WordLemmas.{Keeps, owner_bits_replaced}
use Rattle.data_transfer.proofs.packed.FlowWord.set_owner_bits.Goals as goal

-- the word that is written
written : (c : goal.After-self-1) → Keeps c.with_field-self-inside.result (record c.args.self.now { owner_bits = c.args.owner_bits })
written c =
    owner_bits_replaced c.self.inside.word _ c.args.owner_bits c.args.self.now c.self.view_is c.self.invariant (omega arith)
    (rw (← c.from.ensures) c.with_field-self-inside.ensures)

pub invariant_of-self : goal.invariant_of-self
invariant_of-self c = (written c).in_range

pub returns-clause-flow : goal.returns-clause-flow
returns-clause-flow c = ap (λ p. p.flow) (written c).parts

pub returns-clause-owner_bits : goal.returns-clause-owner_bits
returns-clause-owner_bits c = ap (λ p. p.owner_bits) (written c).parts
