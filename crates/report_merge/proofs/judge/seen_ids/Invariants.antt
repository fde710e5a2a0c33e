use Rattle.std.proofs.Common.{◌≡◌, ℕ, false, ◌||◌, drop, vec_len, slice_index_or, count_by}
use Rattle.report_merge.specs.Seen.{double, double_with, is_among}
use Rattle.report_merge.specs.Refusal.{unknown_id}
use Rattle.std.specs.Prelude.{None}
use Rattle.report_merge.proofs.judge.seen_ids.Given as goal

abbrev pub invariant-loop-id : goal.invariant-loop-id
invariant-loop-id g l = record {
  len : vec_len l.seen ≡ l.pieces;
  known : unknown_id l.pieces (drop l.id-index l.ids) ≡ None;
  seen : (k : ℕ) → (slice_index_or l.seen.items k false || is_among k (drop l.id-index l.ids)) ≡ is_among k l.ids;
  double : double l.ids ≡ double_with (λ k. slice_index_or l.seen.items k false) (drop l.id-index l.ids);
  count : count_by (λ b. b) l.seen.items ≡ l.id-index;
}
