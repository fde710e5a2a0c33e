-- By induction on the calls.
use Rattle.tcp_streams.proofs.Progress.{few_calls}
use Rattle.tcp_streams.proofs.laws.next_comes_to_an_end.Goals as goal

pub returns : goal.returns
returns c = few_calls
