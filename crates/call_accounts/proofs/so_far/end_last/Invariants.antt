use Rattle.std.proofs.Common.{◌≡◌, take, drop, map, length}
use Rattle.call_accounts.specs.SoFar.{ended_by}
use Rattle.call_accounts.proofs.so_far.end_last.Given as goal

abbrev pub invariant-loop-index : goal.invariant-loop-index
invariant-loop-index g l = record {
  length_is : length l.calls.items ≡ length l.initial.calls.items;
  before : take l.index l.calls.items ≡ take l.index l.initial.calls.items;
  behind : drop l.index l.calls.items ≡ map (ended_by l.packet l.how) (drop l.index l.initial.calls.items);
}
