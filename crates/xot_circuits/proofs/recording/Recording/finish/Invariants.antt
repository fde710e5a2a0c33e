-- What is left from here on is what is left in all, after the items so far.
use Rattle.std.proofs.Common.{◌≡◌, ◌++◌, length}
use Rattle.xot_circuits.specs.Recordings.{closed, recorder_of}
use Rattle.xot_circuits.proofs.recording.Recording.finish.Given as goal

abbrev pub invariant-loop-number : goal.invariant-loop-number
invariant-loop-number g l =
    g.I.Items.taken l.out ++ closed (recorder_of l.self).live (recorder_of l.self).table
    ≡ g.I.Items.taken l.initial.out ++ closed (recorder_of l.initial.self).live (recorder_of l.initial.self).table

abbrev pub decreases-loop-number : goal.decreases-loop-number
decreases-loop-number g l = length (recorder_of l.self).live
