use Rattle.std.proofs.Common.{◌^◌, ◌*◌, ◌+◌, ◌%◌, ap, arith}
use Rattle.data_transfer.proofs.WordLemmas.{Keeps, keeps}
use Rattle.data_transfer.proofs.packed.FlowWord.new.Goals as goal

-- the word that is made
made : (c : goal.After-from) → Keeps (c.pack.result + c.from.result * 2 ^ 45 % 2 ^ 64) (record { flow = c.args.flow.now; owner_bits = c.args.owner_bits })
made c = keeps _ _ c.pack.ensures.in_range (omega (arith, c.pack.ensures.word))

pub invariant_of-result : goal.invariant_of-result
invariant_of-result c = (made c).in_range

pub returns-clause-flow : goal.returns-clause-flow
returns-clause-flow c = ap (λ p. p.flow) (made c).parts

pub returns-clause-owner_bits : goal.returns-clause-owner_bits
returns-clause-owner_bits c = ap (λ p. p.owner_bits) (made c).parts
