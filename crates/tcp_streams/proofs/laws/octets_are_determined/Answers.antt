-- By the law.
use Rattle.tcp_streams.proofs.Agreement.{agreed}
use Rattle.tcp_streams.proofs.laws.octets_are_determined.Goals as goal

pub returns : goal.returns
returns c = agreed
