-- By induction on the carriers.
use Rattle.ip_segments.proofs.Parts.{in_datagram_part, in_frame_part}
use Rattle.ip_segments.proofs.laws.datagrams_are_parts.Goals as goal

pub returns-clause-frame : goal.returns-clause-frame
returns-clause-frame c = in_frame_part

pub returns-clause-datagram : goal.returns-clause-datagram
returns-clause-datagram c = in_datagram_part
