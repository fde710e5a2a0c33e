use Rattle.std.proofs.Common.{◌∙◌, rules, subst}
use Rattle.std.specs.List.Sorted.{IsPermutation}
use Rattle.std.proofs.lemmas.List.Sorted.{IsNonDecreasingBy-from_sort_by}
use Rattle.header_trials.specs.TriedLines.{rank}
use Rattle.header_trials.proofs.TrialsLemmas.{tried_all}
use Rattle.header_trials.proofs.tried_lines.best_first.Goals as goal

pub returns-clause-all : goal.returns-clause-all
returns-clause-all g c own headers items all =
    subst (λ first. IsPermutation first c.sort_unstable_by.new.self.items) (c.in_ok-tried.ensures ∙ tried_all g.C.Channel own items headers c.args.trials.now all) c.sort_unstable_by.ensures.permutation

pub returns-clause-sorted : goal.returns-clause-sorted
returns-clause-sorted g c = IsNonDecreasingBy-from_sort_by rank _ c.sort_unstable_by.ensures.sorted (λ a r q k. search rules)
