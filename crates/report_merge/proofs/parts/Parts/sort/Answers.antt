use Rattle.std.proofs.Common.{ap, arith, rules, subst}
use Rattle.std.proofs.lemmas.Result.{on_ok_weaker}
use Rattle.std.specs.List.Sorted.{IsPermutation}
use Rattle.std.proofs.lemmas.List.Sorted.{IsNonDecreasingBy-from_sort_by_key, sum_by-IsPermutation}
use Rattle.line_model.specs.basics.Records.{CallRecord}
use Rattle.line_model.specs.declared.finding.Finding.{Finding}
use Rattle.report_merge.specs.Gathered.{Gathered}
use Rattle.report_merge.proofs.parts.Parts.sort.Goals as goal

pub invariant_of-self : goal.invariant_of-self
invariant_of-self g c =
    let same = sum_by-IsPermutation (λ (d : CallRecord). d.segments) c.self.inside.calls.items c.sort_by_cached_key.new.self.items c.sort_by_cached_key.ensures.permutation in
    record {
      few_octets = c.self.invariant.few_octets;
      few_segments = c.self.invariant.few_segments;
      within = omega (arith, c.self.invariant.within, same);
    }

pub returns : goal.returns
returns g c = on_ok_weaker c.sort_by_cached_key.result
    (λ sorted. record {
      same_findings = subst (λ (old : Gathered). IsPermutation old.findings c.sort_unstable_by_key.new.self.items) c.self.view_is c.sort_unstable_by_key.ensures.permutation;
      findings_sorted = IsNonDecreasingBy-from_sort_by_key (λ (x : Finding). x.packet) _ c.sort_unstable_by_key.ensures.sorted (λ a r q k. search rules);
      same_calls = subst (λ (old : Gathered). IsPermutation old.calls c.sort_by_cached_key.new.self.items) c.self.view_is c.sort_by_cached_key.ensures.permutation;
      calls_sorted = IsNonDecreasingBy-from_sort_by_key (λ (x : CallRecord). x.opened) _ sorted (λ a r q k. search rules);
      same_pieces = ap (λ (old : Gathered). old.pieces) c.self.view_is;
      same_octets = ap (λ (old : Gathered). old.octets) c.self.view_is;
      same_segments = ap (λ (old : Gathered). old.segments) c.self.view_is;
    })
    c.sort_by_cached_key.ensures.sorted
