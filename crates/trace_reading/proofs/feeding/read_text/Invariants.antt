use Rattle.std.proofs.Common.{◌+◌, ◌-◌, ◌≤◌, ◌^◌, length}
use Rattle.trace_text.proofs.SourceLemmas.{Reached}
use Rattle.trace_reading.specs.Readings.{IsFedTextOf}
use Rattle.trace_reading.proofs.feeding.read_text.Given as goal

abbrev pub invariant-loop-last_read : goal.invariant-loop-last_read
invariant-loop-last_read g l = record {
  calls : g.S.Source.calls l.source ≤ g.S.Source.calls l.fn.source + (l.fed.taken.sent + length l.fed.room.items);
  room : l.fed.taken.sent + length l.fed.room.items ≤ 1073741824;
  failures : g.S.Source.failures l.fn.source ≤ g.S.Source.failures l.source;
  least : g.S.Source.calls l.fn.source ≤ g.S.Source.calls l.source;
  wide : 2 ^ 16 ≤ l.fed.room.spare;
  reached : Reached (g.S.Source.left l.fn.source) (g.S.Source.left l.source) (λ text. IsFedTextOf g.P.TraceText.text l.fed.taken.work.now.queue l.fn.pass l.pass text l.fed.taken.sent l.fed.room.items l.fed.taken.text);
}

abbrev pub decreases-loop-last_read : goal.decreases-loop-last_read
decreases-loop-last_read g l = 1073741824 - (l.fed.taken.sent + length l.fed.room.items)
