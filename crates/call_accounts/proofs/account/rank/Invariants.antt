use Rattle.std.proofs.Common.{◌≡◌, ℕ, ◌-◌, ◌<◌, drop, slice_index_or}
use Rattle.call_accounts.specs.Entries.{rank_behind}
use Rattle.call_accounts.proofs.RankLemmas.{weight}
use Rattle.call_accounts.proofs.account.rank.Given as goal

abbrev pub invariant-loop-index : goal.invariant-loop-index
invariant-loop-index l = record {
  below : l.rank < weight l.index;
  octets : (i : ℕ) → slice_index_or l.octets i 0 < 256;
  is : rank_behind (15 - l.index) (drop l.index l.octets) l.rank ≡ rank_behind 15 l.octets 0;
}
