-- By induction on what was seen.
use Rattle.lapb_link.proofs.Whole.{whole}
use Rattle.lapb_link.proofs.laws.without_losses.Goals as goal

pub returns : goal.returns
returns c = whole c.next_frame_is_accepted.ensures c.repeated_frame_is_left_out.ensures c.inside_acknowledgement_shows_nothing.ensures
