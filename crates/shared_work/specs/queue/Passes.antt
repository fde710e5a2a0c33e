-- What contracts see of a queue and of a pass.
use Rattle.std.specs.Prelude.{ℕ, List}
use Rattle.atomic_table.specs.Seated.{TableId}
use Rattle.line_model.specs.basics.Records.{Piece}
use Rattle.shared_work.specs.declared.queue.rule.Record.{Record}

-- which queue it is
abbrev pub QueueId : Type 0
QueueId = TableId

-- which queue it is, and how much it holds
pub record QueueView : Type 0 where
  pub queue : QueueId
  pub capacity : ℕ

-- of which queue the pass is, what it did, and its pieces: the feeder's those that were fed, a worker's those that it took
pub record PassView : Type 0 where
  pub queue : QueueId
  pub record_of : Record
  pub pieces : List Piece

-- of which queue the witness is, and the pieces that it knows of
pub record WitnessView : Type 0 where
  pub queue : QueueId
  pub pieces : List Piece
