use Rattle.std.proofs.Common.{ℕ, cond, nat_le, arith}
use Rattle.std.proofs.lemmas.List.Sorted.{IsNonDecreasingBy-from_sort, sum_by-IsPermutation}
use Rattle.std.specs.List.Sorted.{IsNonDecreasing}
use Rattle.call_accounts.proofs.SweepLemmas.{peak_from_sweep}
use Rattle.call_accounts.proofs.peak.peak_of.Goals as goal

pub highest-requires-clause-ups_sorted : goal.highest-requires-clause-ups_sorted
highest-requires-clause-ups_sorted g c = rw c.as_slice.ensures.value (IsNonDecreasingBy-from_sort (λ x. x) _ c.sort_unstable.ensures.sorted)

pub highest-requires-clause-ends_sorted : goal.highest-requires-clause-ends_sorted
highest-requires-clause-ends_sorted g c = rw c.as_slice-2.ensures.value (IsNonDecreasingBy-from_sort (λ x. x) _ c.sort_unstable-2.ensures.sorted)

pub returns-clause-peak : goal.returns-clause-peak
returns-clause-peak g c =
    let ups = c.as_slice.result.now in
    let ends = c.as_slice-2.result.now in
    let s : IsNonDecreasing ups = rw c.as_slice.ensures.value (IsNonDecreasingBy-from_sort (λ x. x) _ c.sort_unstable.ensures.sorted) in
    peak_from_sweep c.args.calls.now ups ends c.highest.result.count c.highest.result.packet s (λ n.
    let bits = λ (x : ℕ). cond (nat_le x n) 1 0 in
    let e = sum_by-IsPermutation bits _ _ c.sort_unstable.ensures.permutation in
    let f = sum_by-IsPermutation bits _ _ c.sort_unstable-2.ensures.permutation in
    rw (c.as_slice.ensures.value, c.as_slice-2.ensures.value) (omega (arith, e, f, c.in_ok-times.ensures n)))
    c.highest.ensures
