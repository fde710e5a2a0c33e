use Rattle.std.proofs.Common.{arith}
use Rattle.std.proofs.lemmas.Grind.{elements}
use Rattle.channel_machine.proofs.channel.StatusChannel.read_adrift.Goals as goal

pub returns-in_default : goal.returns-in_default
returns-in_default g c = grind (arith, elements)
