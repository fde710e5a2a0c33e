-- What comes from here on is what comes in all, after the items so far.
use Rattle.std.proofs.Common.{◌≡◌}
use Rattle.tcp_streams.specs.Progress.{steps}
use Rattle.xot_circuits.specs.Exchanges.{events_read}
use Rattle.xot_circuits.specs.Recordings.{left_events}
use Rattle.xot_circuits.proofs.Following.{step_behind}
use Rattle.xot_circuits.proofs.recording.read_taken.Given as goal

abbrev pub invariant-loop-event : goal.invariant-loop-event
invariant-loop-event g l =
    step_behind (g.I.Items.taken l.out) (events_read l.number (left_events l.connection) l.exchange)
    ≡ step_behind (g.I.Items.taken l.initial.out) (events_read l.number (left_events l.initial.connection) l.initial.exchange)

abbrev pub decreases-loop-event : goal.decreases-loop-event
decreases-loop-event g l = steps l.connection
