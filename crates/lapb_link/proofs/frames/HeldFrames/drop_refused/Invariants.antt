-- What was kept comes before what is kept of the rest.
use Rattle.std.proofs.Common.{◌≡◌, ◌++◌, filter, length}
use Rattle.lapb_link.specs.Frames.{is_kept}
use Rattle.lapb_link.proofs.frames.HeldFrames.drop_refused.Given as goal

abbrev pub invariant-loop-self : goal.invariant-loop-self
invariant-loop-self l = l.kept.items ++ filter (is_kept l.send l.again l.rejected) l.self-inside.items.items ≡ filter (is_kept l.send l.again l.rejected) l.fn.self

abbrev pub decreases-loop-self : goal.decreases-loop-self
decreases-loop-self l = length l.self-inside.items.items
