-- What a worker starts with, and what it returns.
use Rattle.std.specs.Prelude.{◌≡◌, ◌+◌, List, ◌++◌, length, true, false, [], MatchOption}
use Rattle.shared_work.specs.queue.Passes.{QueueId, PassView}
use Rattle.shared_work.specs.queue.Rule.{worker}
pub use Rattle.shared_work.specs.queue.Rule.{ArePlanned}
use Rattle.shared_work.specs.declared.queue.rule.Record.{Record}
use Rattle.line_model.specs.basics.Records.{Piece}
use Rattle.line_model.specs.declared.fault.Fault.TheVariants.{Memory}
use Rattle.line_model.specs.declared.totals.Totals.{Totals}
use Rattle.workers.specs.declared.worker.WorkerOutcome.{WorkerOutcome}
use Rattle.workers.specs.declared.starting.WorkerStart.{WorkerStart}

-- a new pass of this queue, and a share whose totals are 0
pub record IsWorkerStart {A : Type 0} (id : QueueId) (s : WorkerStart Totals A) : Type 0 where
  pub queue : s.pass.queue ≡ id
  pub fresh : s.pass.record_of ≡ worker [] false 0
  pub share : s.share.posts ≡ 0

-- its pass, of this queue, has its end. Without a fault each piece that it took was posted; otherwise memory ran out
pub record IsWorkerOutcome {A : Type 0} (id : QueueId) (d : WorkerOutcome Totals A) : Type 0 where
  pub queue : d.pass.queue ≡ id
  pub finished : d.pass.record_of.finished ≡ true
  pub fault : MatchOption d.fault (d.share.posts ≡ length d.pass.record_of.taken) (λ f. f ≡ Memory)

-- more pieces may have been fed, and no end; nothing was split or joined
pub record HasFed (v w : Record) : Type 0 where
  pub ends : w.ends ≡ 0
  pub pending : w.pending ≡ v.pending
  pub done : w.done ≡ v.done
  pub taken : w.taken ≡ v.taken

-- these pieces were fed after the earlier ones, and no end
pub record FeedsAll (v : PassView) (ps : List Piece) (w : PassView) : Type 0 where
  pub queue : w.queue ≡ v.queue
  pub kept : HasFed v.record_of w.record_of
  pub fed : w.record_of.fed ≡ v.record_of.fed + length ps
  pub pieces : w.pieces ≡ v.pieces ++ ps

-- the first of these pieces were fed, and the others wait
abbrev pub FeedsFirst : PassView → (ps waiting : List Piece) → PassView → Type 0
FeedsFirst v ps waiting w = (first : List Piece) × FeedsAll v first w × (first ++ waiting ≡ ps)
