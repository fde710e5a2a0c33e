-- The frames so far come before it.
use Rattle.std.proofs.Common.{◌≡◌, ◌≤◌, ◌-◌, ◌++◌, drop, length, take}
use Rattle.lapb_link.specs.Frames.{placed}
use Rattle.lapb_link.specs.declared.frames.HeldFrame.{HeldFrame}
use Rattle.lapb_link.proofs.frames.HeldFrames.place.Given as goal

abbrev pub invariant-loop-at : goal.invariant-loop-at
invariant-loop-at l = (l.at ≤ length l.self) × ((f : HeldFrame) → f.send ≡ l.send
    → placed l.modulus l.next f l.self ≡ take l.at l.self ++ placed l.modulus l.next f (drop l.at l.self))

abbrev pub decreases-loop-at : goal.decreases-loop-at
decreases-loop-at l = length l.self - l.at
