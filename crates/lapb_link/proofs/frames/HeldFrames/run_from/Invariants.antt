-- The number so far goes on over the frames that are left.
use Rattle.std.proofs.Common.{◌≡◌, drop}
use Rattle.lapb_link.specs.Frames.{run_from}
use Rattle.lapb_link.proofs.frames.HeldFrames.run_from.Given as goal

abbrev pub invariant-loop-held : goal.invariant-loop-held
invariant-loop-held l = run_from l.modulus l.end (drop l.held-index l.held-items) ≡ run_from l.modulus l.number l.held-items
