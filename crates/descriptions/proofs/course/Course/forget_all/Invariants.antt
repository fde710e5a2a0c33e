use Rattle.std.proofs.Common.{length}
use Rattle.descriptions.proofs.course.Course.forget_all.Given as goal

abbrev pub decreases-loop : goal.decreases-loop
decreases-loop g l = length l.self.known_channels.channels
