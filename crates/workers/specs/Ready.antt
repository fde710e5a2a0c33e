-- What contracts see of workers that are ready.
use Rattle.std.specs.Prelude.{ℕ}
use Rattle.shared_work.specs.queue.Passes.{QueueId}

-- the queue at which they start, and their number
pub record ReadyView : Type 0 where
  pub queue : QueueId
  pub count : ℕ
