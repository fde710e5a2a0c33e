-- By induction on the calls.
use Rattle.tcp_streams.proofs.Runs.{all_logged}
use Rattle.tcp_streams.proofs.laws.each_place_once.Goals as goal

pub returns : goal.returns
returns c = all_logged
