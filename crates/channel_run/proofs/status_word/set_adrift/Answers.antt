use Rattle.std.proofs.Common.{◌+◌, ◌*◌, ◌%◌, ◌^◌, ◌∙◌, ap}
use Rattle.channel_run.proofs.Words.{marked}
use Rattle.channel_run.proofs.status_word.set_adrift.Goals as goal

pub returns-then-bit-adrift : goal.returns-then-bit-adrift
returns-then-bit-adrift c =
    marked c.args.word.now c.set_owner_bits.new.self c.from.result c.args.adrift c.from.ensures
    (c.set_owner_bits.ensures.owner_bits ∙ ap (λ a. a % 2 ^ 18 + c.from.result * 2 ^ 18) c.owner_bits-owner_bits.ensures.owner_bits) c.set_owner_bits.ensures.flow
