-- Packet by packet.
use Rattle.xot_circuits.proofs.Carried.{split_is_read}
use Rattle.xot_circuits.proofs.laws.split_is_read.Goals as goal

pub returns : goal.returns
returns c = split_is_read
