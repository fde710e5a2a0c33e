use borrow.Author.Tests.{tests}
use Rattle.std.proofs.Common.{rules}
use Rattle.packet_decode.proofs.facility.is_bad_window.Goals as goal

pub returns-else-window-eq0 : goal.returns-else-window-eq0
returns-else-window-eq0 c = search (tests, rules)
