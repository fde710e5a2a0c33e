use Rattle.std.proofs.Common.{rules}
use Rattle.std.proofs.lemmas.List.Sorted.{IsNonDecreasingBy-from_sort_by_key}
use Rattle.call_accounts.specs.declared.account.AccountEntry.{AccountEntry}
use Rattle.call_accounts.proofs.account.by_address.Goals as goal

pub returns-clause-sorted : goal.returns-clause-sorted
returns-clause-sorted g c = IsNonDecreasingBy-from_sort_by_key (λ (x : AccountEntry). x.rank) _ c.sort_unstable_by_key.ensures.sorted (λ a r q k. search rules)
