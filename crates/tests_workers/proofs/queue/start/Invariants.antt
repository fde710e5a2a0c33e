use Rattle.std.specs.Prelude.{◌≡◌}
use Rattle.tests_workers.proofs.queue.start.Given as goal

abbrev pub invariant-loop : goal.invariant-loop
invariant-loop g l = record {
  queue : l.feeder.queue ≡ l.work.queue;
  fed : l.feeder.record_of.fed ≡ l.fn.feeder.record_of.fed;
  ends : l.feeder.record_of.ends ≡ l.fn.feeder.record_of.ends;
}
