use Rattle.std.specs.Prelude.{◌≡◌}
use Rattle.tests_workers.proofs.queue.feed.Given as goal

abbrev pub invariant-loop : goal.invariant-loop
invariant-loop g l = record {
  queue : l.feeder.queue ≡ l.work.queue;
  record_of : l.feeder.record_of ≡ l.fn.feeder.record_of;
  next : l.next.id ≡ l.fn.next.id;
}
