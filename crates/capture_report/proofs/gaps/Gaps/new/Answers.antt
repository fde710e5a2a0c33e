-- The sort puts the ranges in order, and keeps them.
use Rattle.std.proofs.Common.{rules, sym}
use Rattle.std.proofs.lemmas.List.Sorted.{IsNonDecreasingBy-from_sort_by_key, list_any-IsPermutation}
use Rattle.capture_report.specs.Gaps.{holds_frame}
use Rattle.capture_report.specs.declared.gaps.LostRange.{LostRange}
use Rattle.capture_report.proofs.gaps.Gaps.new.Goals as goal

pub invariant_of-result : goal.invariant_of-result
invariant_of-result c = (IsNonDecreasingBy-from_sort_by_key (λ (r : LostRange). r.since) c.sort_by_key.new.self.items c.in_ok-sort_by_key.ensures.sorted (λ a r q k. search rules), c.none.ensures c.sort_by_key.new.self.items 0)

pub returns : goal.returns
returns c = λ frame. sym (list_any-IsPermutation (holds_frame frame) c.args.ranges.items c.sort_by_key.new.self.items c.sort_by_key.ensures.permutation)
