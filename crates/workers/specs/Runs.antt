-- What is known once the workers were joined.
use Rattle.std.specs.Prelude.{◌≡◌, ◌⊎◌, ℕ, ◌-◌, ◌<◌, List, length, sum_by, vec_len, MatchOption}
use Rattle.line_model.specs.declared.fault.Fault.{Fault}
use Rattle.line_model.specs.declared.fault.Fault.TheVariants.{Memory, Start}
use Rattle.line_model.specs.declared.totals.Totals.{Totals}
use Rattle.line_model.specs.basics.Records.{Piece}
use Rattle.shared_work.specs.queue.Passes.{QueueId}
use Rattle.shared_work.specs.queue.Rule.{IsAccounted}
use Rattle.shared_work.specs.declared.queue.rule.Record.{Record}
use Rattle.workers.specs.declared.thread_joining.JoinedWorkers.{JoinedWorkers}
use Rattle.workers.specs.declared.run.RunOutcome.{RunOutcome}

-- this count of passes were joined to the feeder's. Without a fault the shares have as many posts as its record has takes
pub record IsJoined {A : Type 0} (id : QueueId) (count : ℕ) (v : Record) (j : JoinedWorkers Totals A) : Type 0 where
  pub queue : j.pass.queue ≡ id
  pub pending : j.pass.record_of.pending ≡ v.pending - count
  pub done : j.pass.record_of.done ≡ count
  pub fed : j.pass.record_of.fed ≡ v.fed
  pub shares : vec_len j.shares ≡ count
  pub fault : MatchOption j.fault (sum_by (λ s. s.posts) j.shares.items ≡ length j.pass.record_of.taken) (λ f. f ≡ Memory)
  pub all : 0 < count → IsAccounted j.pass.record_of

-- the task became this by the pieces that were fed, which the pass knows. Without a fault there are this count of shares, with a post for each piece; otherwise memory ran out
pub record IsRunOutcome {T A : Type 0} (gives : List Piece → T → Type 0) (count : ℕ) (id : QueueId) (r : RunOutcome T Totals A) : Type 0 where
  pub queue : r.pass.queue ≡ id
  pub became : gives r.pass.pieces r.task
  pub fault : MatchOption r.fault ((vec_len r.shares ≡ count) × (sum_by (λ s. s.posts) r.shares.items ≡ r.pass.record_of.fed)) (λ f. f ≡ Memory)

-- the task ended before it ran: memory ran out, or a thread was refused
abbrev pub CameBack : {T : Type 0} → (unfed : T → T → Type 0) → (task : T) → (T × Fault) → Type 0
CameBack unfed task e = unfed task e.0 × ((e.1 ≡ Memory) ⊎ (e.1 ≡ Start))
