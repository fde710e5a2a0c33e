use Rattle.std.specs.Prelude.{◌≡◌, [], All, vec_len}
use Rattle.shared_work.specs.queue.Rule.{feeder}
use Rattle.workers.specs.Workers.{IsWorkerStart}
use Rattle.workers.proofs.starting.ready_workers.Given as goal

abbrev pub invariant-loop-worker : goal.invariant-loop-worker
invariant-loop-worker g l = record {
  count : vec_len l.starts ≡ l._worker;
  given : l.book ≡ l._worker;
  queue : l.pass.queue ≡ l.work.queue;
  pass : l.pass.record_of ≡ feeder 0 0 l._worker 0 [];
  pieces : l.pass.pieces ≡ [];
  starts : All (IsWorkerStart l.work.queue) l.starts.items;
}
