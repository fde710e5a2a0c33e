-- So many empty frames were pushed.
use Rattle.std.proofs.Common.{◌≡◌, replicate}
use Rattle.lapb_link.specs.Frames.{no_frame}
use Rattle.lapb_link.proofs.frames.RecentFrames.new.Given as goal

abbrev pub invariant-loop : goal.invariant-loop
invariant-loop l = l.items.items ≡ replicate l.counter no_frame
