use Rattle.std.proofs.Common.{◌≡◌}
use Rattle.trace_reading.specs.Readings.{HasFedOn, IsFedSoFar}
use Rattle.trace_reading.proofs.taken_text.TakenText.take_until.Given as goal

abbrev pub invariant-loop : goal.invariant-loop
invariant-loop g l = record {
  ready : IsFedSoFar g.P.TraceText.text l.self.work.now.queue l.pass l.fn.self.sent l.self.text;
  fed : HasFedOn l.fn.pass l.pass;
  sent : l.self.sent ≡ l.fn.self.sent;
}
