use Rattle.std.proofs.Common.{◌*◌, ◌+◌, ◌%◌, ◌^◌, ◌∙◌, ap, arith}
use Rattle.data_transfer.specs.FlowFields.{kept}
use Rattle.data_transfer.proofs.WordLemmas.{Keeps, below_128, numbers_replaced}
use Rattle.data_transfer.proofs.packed.FlowWord.set_numbers.Goals as goal

-- the word that is written
written : (c : goal.After-self-1) →
    Keeps (c.with_field-without_numbers.result + c.from.result * 2 ^ 1 % 2 ^ 64 + c.from-2.result * 2 ^ 8 % 2 ^ 64 + c.from-3.result * 2 ^ 15 % 2 ^ 64 + c.from-4.result * 2 ^ 22 % 2 ^ 64)
    (record c.args.self.now { flow = kept c.flow.inside })
written c =
    let k = c.flow.invariant in
    numbers_replaced c.self.inside.word _ (kept c.flow.inside) c.args.self.now c.self.view_is k
    (ap (λ f. f.modulus) c.flow.view_is ∙ c.requires.modulus) (ap (λ f. f.windows) c.flow.view_is ∙ c.requires.windows)
    (ap (λ f. f.unconfirmed) c.flow.view_is ∙ c.requires.interrupts)
    (omega (
      arith,
      c.with_field-without_numbers.ensures,
      c.from.ensures,
      c.from-2.ensures,
      c.from-3.ensures,
      c.from-4.ensures,
      below_128 _ _ k.eight k.of_t.sent_below,
      below_128 _ _ k.eight k.of_t.acknowledged_below,
      below_128 _ _ k.eight k.of_n.sent_below,
      below_128 _ _ k.eight k.of_n.acknowledged_below,
    ))

pub invariant_of-self : goal.invariant_of-self
invariant_of-self c = (written c).in_range

pub returns-clause-flow : goal.returns-clause-flow
returns-clause-flow c = ap (λ p. p.flow) (written c).parts ∙ c.flow.view_is

pub returns-clause-owner_bits : goal.returns-clause-owner_bits
returns-clause-owner_bits c = ap (λ p. p.owner_bits) (written c).parts
