-- The sort puts the frames in order, and keeps them.
use Rattle.std.proofs.Common.{◌==◌, sym}
use Rattle.std.proofs.lemmas.List.Sorted.{IsNonDecreasingBy-from_sort, list_any-IsPermutation}
use Rattle.capture_report.proofs.plan.sorted.Goals as goal

pub returns-clause-order : goal.returns-clause-order
returns-clause-order c = IsNonDecreasingBy-from_sort (λ x. x) c.sort.new.self.items c.in_ok-sort.ensures.sorted

pub returns-clause-same : goal.returns-clause-same
returns-clause-same c = λ frame. sym (list_any-IsPermutation (λ f. f == frame) c.args.frames.items c.sort.new.self.items c.sort.ensures.permutation)
