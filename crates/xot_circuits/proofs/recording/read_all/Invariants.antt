-- What comes from here on is what comes in all, after the items so far.
use Rattle.std.proofs.Common.{◌≡◌, ◌++◌, drop, map}
use Rattle.xot_circuits.specs.Recordings.{items_from, recorder_of, recording_items, seen_view}
use Rattle.xot_circuits.proofs.recording.read_all.Given as goal

abbrev pub invariant-loop-seen : goal.invariant-loop-seen
invariant-loop-seen g l =
    g.I.Items.taken l.out ++ items_from (map seen_view (drop l.seen-index l.segments)) (recorder_of l.recording)
    ≡ g.I.Items.taken l.initial.out ++ recording_items l.fn.roles (map seen_view l.segments)
