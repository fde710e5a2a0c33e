-- What comes from here on is what comes in all, after the items so far.
use Rattle.std.proofs.Common.{◌≡◌}
use Rattle.tcp_streams.specs.Progress.{steps_at}
use Rattle.tcp_streams.specs.Tables.{table_of}
use Rattle.xot_circuits.specs.Exchanges.{events_read}
use Rattle.xot_circuits.specs.Recordings.{last_events, last_table}
use Rattle.xot_circuits.proofs.Following.{step_behind}
use Rattle.xot_circuits.proofs.recording.read_last.Given as goal

abbrev pub invariant-loop-event : goal.invariant-loop-event
invariant-loop-event g l = record {
  table : last_table l.place (table_of l.connections) ≡ last_table l.place (table_of l.initial.connections);
  items : step_behind (g.I.Items.taken l.out) (events_read l.place.number (last_events l.place (table_of l.connections)) l.exchange)
      ≡ step_behind (g.I.Items.taken l.initial.out) (events_read l.place.number (last_events l.place (table_of l.initial.connections)) l.initial.exchange);
}

abbrev pub decreases-loop-event : goal.decreases-loop-event
decreases-loop-event g l = steps_at l.place (table_of l.connections)
