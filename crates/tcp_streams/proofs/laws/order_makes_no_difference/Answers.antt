-- By the law.
use Rattle.tcp_streams.proofs.Agreement.{in_any_order}
use Rattle.tcp_streams.proofs.laws.order_makes_no_difference.Goals as goal

pub returns : goal.returns
returns c = in_any_order
