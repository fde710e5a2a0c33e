use Rattle.channel_machine.proofs.PackedLemmas.{view_of_word}
use Rattle.channel_machine.proofs.packed.PackedStatusStatusStore.word.Goals as goal

pub returns : goal.returns
returns c = view_of_word c.args.self.now.interface c.args.self.now.word
