-- Each outcome has at most one more, and gives up the first of more than 64.
use Rattle.ip_segments.proofs.Limit.{few_wait}
use Rattle.ip_segments.proofs.laws.few_datagrams_wait.Goals as goal

pub returns : goal.returns
returns c = few_wait
