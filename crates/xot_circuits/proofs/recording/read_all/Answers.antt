-- Segment by segment.
use Rattle.std.proofs.lemmas.List.{at_drop_more}
use Rattle.xot_circuits.specs.Recordings.{recorder_of}
use Rattle.xot_circuits.proofs.Following.{all_kept}
use Rattle.xot_circuits.proofs.recording.read_all.Goals as goal

pub loop-seen-preserved : goal.loop-seen-preserved
loop-seen-preserved g c =
    let segments = c.args.segments.now in
    let i = c.loop-seen.seen-index in
    all_kept segments i (g.I.Items.taken c.loop-seen.out) (g.I.Items.taken c.read.new.out) (recorder_of c.loop-seen.recording) (recorder_of c.read.new.self) _ _
    (at_drop_more (λ l. l) segments i _ c.loop-seen-test.true) c.in_ok-read.ensures.after c.in_ok-read.ensures.items c.loop-seen.invariant
