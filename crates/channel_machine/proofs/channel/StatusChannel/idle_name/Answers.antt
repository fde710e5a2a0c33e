use Rattle.std.proofs.Common.{arith}
use Rattle.std.proofs.lemmas.Grind.{elements}
use Rattle.channel_machine.proofs.channel.StatusChannel.idle_name.Goals as goal

pub returns-else-is_in_transfer : goal.returns-else-is_in_transfer
returns-else-is_in_transfer g c = grind (arith, elements)
