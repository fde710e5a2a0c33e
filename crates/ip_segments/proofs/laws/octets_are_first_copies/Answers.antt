-- By induction on the fragments.
use Rattle.ip_segments.proofs.Made.{put_together}
use Rattle.ip_segments.proofs.laws.octets_are_first_copies.Goals as goal

pub returns : goal.returns
returns c = put_together
