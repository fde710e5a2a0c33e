use Rattle.std.specs.Prelude.{◌≡◌, false}
use Rattle.tests_workers.proofs.queue.drain.Given as goal

abbrev pub invariant-loop : goal.invariant-loop
invariant-loop g l = record {
  queue : l.pass.queue ≡ l.work.queue;
  unfinished : l.pass.record_of.finished ≡ false;
}
