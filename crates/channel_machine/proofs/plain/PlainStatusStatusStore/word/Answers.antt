use Rattle.std.proofs.Common.{◌∙◌}
use Rattle.channel_machine.specs.Agreed.{agreed_of}
use Rattle.channel_machine.proofs.PackedLemmas.{view_new}
use Rattle.channel_machine.proofs.plain.PlainStatusStatusStore.word.Goals as goal

pub returns : goal.returns
returns c =
    let s = c.args.self.now in
    let bits = c.owner_bits_of.ensures in
    view_new c.new.result c.owner_bits_of.result (record { state = s.state; owed = s.owed; terms = agreed_of s.terms; flow = s.flow })
    c.new.ensures.owner_bits c.new.ensures.flow (bits.state ∙ c.state_bits-state.ensures.state) bits.owed bits.call bits.size_t bits.size_n
