use Rattle.std.proofs.Common.{◌≡◌, map, take}
use Rattle.std.specs.List.{AllByRecursion}
use Rattle.call_accounts.specs.Entries.{IsRanked, account_of_call, account_of_entry}
use Rattle.call_accounts.proofs.account.entries.Given as goal

abbrev pub invariant-loop-call : goal.invariant-loop-call
invariant-loop-call g l = record {
  entries : map account_of_entry l.entries.items ≡ map account_of_call (take l.call-index l.calls);
  ranked : AllByRecursion IsRanked l.entries.items;
}
