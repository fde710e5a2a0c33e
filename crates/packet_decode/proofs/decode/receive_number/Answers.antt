use borrow.Author.Tests.{tests}
use Rattle.std.proofs.Common.{rules}
use Rattle.packet_decode.proofs.decode.receive_number.Goals as goal

pub returns-in-len4-up : goal.returns-in-len4-up
returns-in-len4-up c = search (tests, rules)
