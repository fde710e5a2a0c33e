use Rattle.std.proofs.Common.{◌∙◌, ◌+◌, ◌*◌, ◌^◌, ℕ, nat_cmp}
use Rattle.std.specs.Ordering.{ordering_then}
use Rattle.header_trials.proofs.RankLemmas.{pair_cmp}
use Rattle.header_trials.proofs.tried_lines.Tried.compare.Goals as goal

pub returns : goal.returns
returns c =
    let a : ℕ = c.reaction_rank.result in
    let b : ℕ = c.reaction_rank-2.result in
    let low : ℕ = c.tally_rank.result in
    let other : ℕ = c.tally_rank-2.result in
    c.then.ensures
    ∙ (λ j. ordering_then (c.cmp-by_reactions.ensures j) (c.cmp.ensures j))
    ∙ pair_cmp (2 ^ 120) a b low other c.tally_rank.ensures.few c.tally_rank-2.ensures.few
    ∙ (λ j. nat_cmp (c.reaction_rank.ensures j * 2 ^ 120 + c.tally_rank.ensures.rank j) (c.reaction_rank-2.ensures j * 2 ^ 120 + c.tally_rank-2.ensures.rank j))
