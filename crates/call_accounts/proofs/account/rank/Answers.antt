use Rattle.std.proofs.Common.{◌≡◌, ◌∙◌, ◌+◌, ◌-◌, ◌*◌, ℕ, sym, subst, ap, arith, drop}
use Rattle.call_accounts.specs.Entries.{rank_behind, IsRank}
use Rattle.call_accounts.proofs.RankLemmas.{weight_below, weight_more, rank-more, all_octets}
use Rattle.call_accounts.proofs.account.rank.Goals as goal

pub overflow_mul-rank : goal.overflow_mul-rank
overflow_mul-rank c = let few = weight_below c.loop-index.index c.loop-index-test.true in omega (arith, few, c.loop-index.invariant.below)

pub overflow_add-rank : goal.overflow_add-rank
overflow_add-rank c = let few = weight_below c.loop-index.index c.loop-index-test.true in omega (arith, few, c.loop-index.invariant.below, c.digit.ensures.few)

pub loop-index-preserved : goal.loop-index-preserved
loop-index-preserved c =
    let i : ℕ = c.loop-index.index in
    record {
      below = omega (arith, weight_more i, c.loop-index.invariant.below, c.digit.ensures.few);
      octets = c.loop-index.invariant.octets;
      is =
          ap (λ d. rank_behind (15 - (i + 1)) (drop (i + 1) c.as_bytes-octets.result.now) (c.loop-index.rank * 257 + d)) c.digit.ensures.digit
          ∙ sym (rank-more c.as_bytes-octets.result.now i c.loop-index.rank c.loop-index-test.true)
          ∙ c.loop-index.invariant.is;
    }

pub returns : goal.returns
returns c =
    let octets = c.as_bytes-octets.result.now in
    let i : ℕ = c.loop-index.index in
    let none : 15 - i ≡ 0 = omega (arith, c.loop-index-test.false) in
    subst (IsRank c.loop-index.rank) c.as_bytes-octets.ensures.digits (record {
      few = c.as_bytes-octets.ensures.few;
      octets = all_octets octets c.loop-index.invariant.octets;
      is = sym (ap (λ k. rank_behind k (drop i octets) c.loop-index.rank) none) ∙ c.loop-index.invariant.is;
    })
