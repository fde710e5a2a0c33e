use Rattle.std.proofs.Common.{◌∙◌, sym, ap}
use Rattle.data_transfer.specs.Packed.{packed_word}
use Rattle.data_transfer.specs.PackedLaw.{packed_word-packed_in}
use Rattle.data_transfer.proofs.packed.FlowWord.word.Goals as goal

pub returns : goal.returns
returns c = sym (packed_word-packed_in c.self.inside.word) ∙ ap packed_word c.self.view_is
