use Rattle.std.specs.Prelude.{◌≡◌}
use Rattle.tests_workers.proofs.queue.feed_ends.Given as goal

abbrev pub invariant-loop : goal.invariant-loop
invariant-loop g l = l.feeder.queue ≡ l.work.queue
