use Rattle.std.proofs.Common.{◌∙◌, ap, arith}
use Rattle.std.proofs.lemmas.Grind.{elements}
use Rattle.channel_machine.specs.PackedStatus.{settled}
use Rattle.channel_machine.proofs.PackedLemmas.{settled_status}
use Rattle.channel_machine.proofs.packed.PackedStatusStatusStore.settle.Goals as goal

pub returns : goal.returns
returns c =
    settled_status c.args.self.now.interface c.args.self.now.word c.set_owner_bits.new.self
    (c.set_owner_bits.ensures.owner_bits ∙ c.settled.ensures ∙ ap (λ a. settled a) c.owner_bits-owner_bits.ensures.owner_bits) c.set_owner_bits.ensures.flow

pub invariant_of-self : goal.invariant_of-self
invariant_of-self c = grind (arith, elements)
