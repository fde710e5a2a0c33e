use Rattle.std.specs.Prelude.{◌≡◌}
use Rattle.tests_workers.proofs.queue.feed_all.Given as goal

abbrev pub invariant-loop-id : goal.invariant-loop-id
invariant-loop-id g l = record {
  queue : l.feeder.queue ≡ l.work.queue;
  fed : l.feeder.record_of.fed ≡ l.id;
  unended : l.feeder.record_of.ends ≡ 0;
}
