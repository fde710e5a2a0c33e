use Rattle.std.specs.Prelude.{◌≡◌, ◌+◌, ◌-◌, ◌≤◌, ◌<◌, length, All, sum_by, vec_len, vec_capacity, MatchOption}
use Rattle.std.specs.Vec.Iter.{into_iter_items, into_iter_len}
use Rattle.line_model.specs.declared.fault.Fault.TheVariants.{Memory}
use Rattle.shared_work.specs.queue.Rule.{IsAccounted}
use Rattle.line_model.specs.declared.totals.Totals.{Totals}
use Rattle.workers.proofs.thread_joining.join_all.Given as goal

abbrev pub invariant-loop-one : goal.invariant-loop-one
invariant-loop-one g l = record {
  promised : All (λ h. h.promise.work.now.queue ≡ l.work.queue) (into_iter_items l.one-iterator);
  count : vec_len l.shares + into_iter_len l.one-iterator ≡ vec_len l.fn.running;
  room : vec_len l.fn.running ≤ vec_capacity l.shares;
  queue : l.pass.queue ≡ l.work.queue;
  pieces : l.pass.pieces ≡ l.initial.pass.pieces;
  pending : l.pass.record_of.pending ≡ l.initial.pass.record_of.pending - vec_len l.shares;
  done : l.pass.record_of.done ≡ vec_len l.shares;
  fed : l.pass.record_of.fed ≡ l.initial.pass.record_of.fed;
  fault : MatchOption l.fault (sum_by (λ (s : Totals). s.posts) l.shares.items ≡ length l.pass.record_of.taken) (λ f. f ≡ Memory);
  all : 0 < vec_len l.shares → IsAccounted l.pass.record_of;
}
