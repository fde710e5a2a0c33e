-- What a run gives, once all were joined.
use Rattle.std.proofs.Common.{◌≡◌, ℕ, ◌<◌, length, Option, Some, None, sym, ◌∙◌, subst, arith}
use Rattle.std.specs.Prelude.{MatchOption, sum_by, vec_len}
use Rattle.line_model.proofs.Counting.{length-once}
use Rattle.line_model.specs.declared.fault.Fault.TheVariants.{Memory}
use Rattle.line_model.specs.declared.totals.Totals.{Totals}
use Rattle.shared_work.specs.queue.Passes.{QueueId}
use Rattle.shared_work.specs.declared.queue.rule.Record.{Record}
use Rattle.workers.specs.declared.thread_joining.JoinedWorkers.{JoinedWorkers}
use Rattle.workers.specs.Runs.{IsJoined}

match_map : {E : Type 0} (f : Option E) (p q : Type 0) (m : E → Type 0) → (p → q) → MatchOption f p m → MatchOption f q m
match_map None p q m to h = to h
match_map (Some e) p q m to h = h

pub ended : {A : Type 0} (id : QueueId) (count k n : ℕ) (v : Record) (j : JoinedWorkers Totals A) → IsJoined id count v j → v.pending ≡ count → 0 < count → v.fed ≡ n → count ≡ k
    → MatchOption j.fault ((vec_len j.shares ≡ k) × (sum_by (λ (s : Totals). s.posts) j.shares.items ≡ n)) (λ f. f ≡ Memory)
ended id count k n v j h pending some fed same =
    let all = h.all some (omega (arith, h.pending, pending)) (subst (λ k. 0 < k) (sym h.done) some) in
    let taken : length j.pass.record_of.taken ≡ n = length-once j.pass.record_of.taken j.pass.record_of.fed all ∙ (h.fed ∙ fed) in
    match_map j.fault _ _ _ (λ all_posts. (h.shares ∙ same, all_posts ∙ taken)) h.fault
