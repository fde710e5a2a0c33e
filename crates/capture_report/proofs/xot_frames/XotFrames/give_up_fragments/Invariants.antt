-- Those so far, and then those that are left, are all of them.
use Rattle.std.proofs.Common.{◌≡◌, length}
use Rattle.capture_report.specs.Reasons.{waiting_from}
use Rattle.capture_report.proofs.xot_frames.XotFrames.give_up_fragments.Given as goal

abbrev pub invariant-loop-given_up : goal.invariant-loop-given_up
invariant-loop-given_up l = record {
  all : waiting_from l.self.fragments l.count ≡ waiting_from l.initial.self.fragments 0;
  same : l.self.recording ≡ l.initial.self.recording;
}

abbrev pub decreases-loop-given_up : goal.decreases-loop-given_up
decreases-loop-given_up l = length l.self.fragments
